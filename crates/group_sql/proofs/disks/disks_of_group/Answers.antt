use Rattle.std.proofs.Common.{◌≡◌}
use Rattle.std.proofs.lemmas.Result.{err_from_is_err_and}
use Rattle.asm_grammar.specs.Reading.{parse}
use Rattle.asm_grammar.specs.Reads.{items_of, reads}
use Rattle.asm_world.specs.Grammar as g
use Rattle.asm_world.specs.Meaning.{new_disk_of}
use Rattle.group_sql.specs.Rows.{group_name_and_disks, named_in}
use Rattle.group_sql.proofs.Parts.{named_took, named_bad}
use Rattle.group_sql.proofs.Steps.{refuses_by}
use Rattle.group_sql.proofs.disks.disks_of_group.Goals as goal

pub returns-in_err-disks : goal.returns-in_err-disks
returns-in_err-disks c =
    let p = c.expect.new.place in
    let e = err_from_is_err_and c.from_residual-in_err-disks.result c.from_residual-in_err-disks.ensures.1 in
    rw (e.1, e.2) (refuses_by c.in_err-disks.field-0.0 (reads (g.listed g.disk) (λ v. items_of new_disk_of v) p) (reads group_name_and_disks (named_in c.args.quorum) c.args.place.now)
    (λ l h. rw (c.in_ok-name.ensures, c.in_ok-expect.ensures) (named_bad c.args.quorum c.in_ok-name.name (parse (g.listed g.disk) p.rest.now p.left) l h)) c.in_err-disks.ensures)

pub returns : goal.returns
returns c =
    let p = c.expect.new.place in
    let q = c.read_disks.new.place in
    rw (c.in_ok-name.ensures, c.in_ok-expect.ensures) (named_took c.args.quorum c.in_ok-name.name (parse (g.listed g.disk) p.rest.now p.left) c.in_ok-disks.disks q.rest.now q.left c.in_ok-disks.ensures)
