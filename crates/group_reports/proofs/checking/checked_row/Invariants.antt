use Rattle.std.proofs.Common.{◌≡◌, ◌≤◌, ◌+◌, drop}
use Rattle.group_reports.specs.Extents.{extents_from}
use Rattle.group_reports.proofs.Counting.{AreCounted}
use Rattle.group_reports.proofs.checking.checked_row.Given as goal

abbrev pub invariant-loop-homes : goal.invariant-loop-homes
invariant-loop-homes l = record {
  counts : AreCounted l.disks (extents_from l.catalog l.file l.copies l.first l.extents) (extents_from l.catalog l.file l.copies l.index (drop l.homes-index l.extents)) l.checked;
  index : l.index ≡ l.first + l.homes-index;
  few : l.checked.extents ≤ l.homes-index;
  fewer : l.checked.not_full ≤ l.homes-index;
}
