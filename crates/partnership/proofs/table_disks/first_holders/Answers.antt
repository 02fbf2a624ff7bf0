use Rattle.std.proofs.Common.{ℕ, length, ◌++◌, ap, ◌∙◌}
use Rattle.std.specs.Prelude.{fold}
use Rattle.asm_placement.specs.DiskSets.{by_group}
use Rattle.asm_placement.specs.TableDisks.{in_rounds}
use Rattle.partnership.specs.Rounds.{none_of, with_disk}
use Rattle.partnership.proofs.TableSets.{holders_are}
use Rattle.partnership.proofs.table_disks.first_holders.Goals as goal

pub returns : goal.returns
returns c =
    holders_are c.args.kind c.args.disks.now c.as_slice.result.now c.as_slice-2.result.now c.in_rounds.result (c.as_slice.ensures ∙ c.of-quorum.ensures) (c.as_slice-2.ensures ∙ c.of-regular.ensures)
    (c.in_rounds.ensures ∙ ap (λ (n : ℕ). fold with_disk (none_of n) (in_rounds (length c.args.disks.now) (by_group c.as_slice.result.now ++ by_group c.as_slice-2.result.now))) c.table_count-count.ensures)
