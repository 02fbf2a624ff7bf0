use Rattle.std.proofs.Common.{◌≡◌, ◌+◌, drop}
use Rattle.std.specs.Prelude.{find}
use Rattle.group_reports.specs.Extents.{extents_from, is_only_on}
use Rattle.group_reports.proofs.checking.lost_in_row.Given as goal

abbrev pub invariant-loop-homes : goal.invariant-loop-homes
invariant-loop-homes l = record {
  after : find (is_only_on l.disks l.disk) (extents_from l.catalog l.file l.copies l.index (drop l.homes-index l.extents))
      ≡ find (is_only_on l.disks l.disk) (extents_from l.catalog l.file l.copies l.first l.extents);
  index : l.index ≡ l.first + l.homes-index;
}
