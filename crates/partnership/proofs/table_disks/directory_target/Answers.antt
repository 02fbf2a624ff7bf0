use Rattle.std.proofs.Common.{refl, ap, ◌∙◌}
use Rattle.asm_formats.specs.Status.{Status}
use Rattle.asm_placement.specs.TableDisks.{staying}
use Rattle.partnership.proofs.TableSets.{directory_due}
use Rattle.partnership.proofs.table_disks.directory_target.Goals as goal

pub returns-then-group_count-due : goal.returns-then-group_count-due
returns-then-group_count-due c =
    directory_due c.args.kind c.args.status.now c.entries-disks.result.now c.as_slice-holding.result.now c.as_slice.result.now c.group_count-2.result c.min-due.result c.first_outside.result
    c.entries-disks.ensures.entries
    (c.as_slice-holding.ensures ∙ c.of-staying.ensures ∙ ap (λ (r : Status). staying c.entries-disks.result.now r.directories) c.status.view_is)
    (c.as_slice.ensures ∙ c.of-targets.ensures)
    c.group_count-2.ensures (c.min-due.ensures ∙ rw (c.copy_count.ensures, c.group_count.ensures) refl) c.if-group_count-due.true c.first_outside.ensures
