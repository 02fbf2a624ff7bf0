use Rattle.std.proofs.Common.{Some, ap, sym, ◌∙◌}
use Rattle.asm_world.specs.Grammar as g
use Rattle.written_sql.specs.Lines.{put_maybe, some_disks_value}
use Rattle.group_sql.specs.Said.{disks_said}
use Rattle.written_sql.proofs.Wholes.{offlined}
use Rattle.written_sql.proofs.written_clauses.offline.Goals as goal

pub returns : goal.returns
returns c =
    let disks = disks_said c.args.disks.now in
    let e = sym c.in-Some.is ∙ (c.in_ok-line.ensures ∙ ap (λ l. put_maybe g.some_disks (some_disks_value disks) l) c.in_ok-key.ensures) in
    ap (λ z. Some z) c.in_ok-write_after.ensures ∙ sym (offlined disks c.args.minutes c.args.line (Some c.in-Some.line) e)
