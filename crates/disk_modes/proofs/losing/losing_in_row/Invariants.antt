use Rattle.std.proofs.Common.{◌≡◌, ◌+◌, drop}
use Rattle.std.specs.Prelude.{find}
use Rattle.group_reports.specs.Extents.{extents_from}
use Rattle.disk_modes.specs.Losing.{is_losing}
use Rattle.disk_modes.proofs.losing.losing_in_row.Given as goal

abbrev pub invariant-loop-homes : goal.invariant-loop-homes
invariant-loop-homes l = record {
  after : find (is_losing l.counted l.disks l.named) (extents_from l.catalog l.file l.copies l.index (drop l.homes-index l.extents))
      ≡ find (is_losing l.counted l.disks l.named) (extents_from l.catalog l.file l.copies l.first l.extents);
  index : l.index ≡ l.first + l.homes-index;
}
