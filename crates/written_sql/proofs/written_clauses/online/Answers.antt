use Rattle.std.proofs.Common.{Some, ap, sym, ◌∙◌}
use Rattle.asm_world.specs.Grammar as g
use Rattle.written_sql.specs.Lines.{put_maybe, some_disks_value}
use Rattle.group_sql.specs.Said.{disks_said}
use Rattle.written_sql.proofs.Wholes.{onlined}
use Rattle.written_sql.proofs.written_clauses.online.Goals as goal

pub returns : goal.returns
returns c =
    let disks = c.args.disks.now in
    let e = sym c.in-Some.is ∙ (c.in_ok-line.ensures ∙ ap (λ l. put_maybe g.some_disks (some_disks_value (disks_said disks)) l) c.in_ok-key.ensures) in
    ap (λ z. Some z) c.in_ok-write_wait.ensures ∙ sym (onlined disks c.args.wait c.args.line (Some c.in-Some.line) e)
