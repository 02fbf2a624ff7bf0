use Rattle.std.proofs.Common.{◌≤◌, ◌+◌, ◌*◌, length}
use Rattle.group_reports.specs.Extents.{all_extents, extents_in}
use Rattle.group_reports.proofs.Counting.{AreCounted}
use Rattle.group_reports.proofs.checking.checked_by.Given as goal

abbrev pub invariant-loop-at : goal.invariant-loop-at
invariant-loop-at l = record {
  counts : AreCounted l.disks (all_extents l.catalog) (extents_in l.catalog l.at-iterator) l.checked;
  few : l.checked.extents + 256 * length l.at-iterator ≤ 256 * length l.catalog.tables.extents;
  fewer : l.checked.not_full + 256 * length l.at-iterator ≤ 256 * length l.catalog.tables.extents;
}
