use Rattle.std.proofs.Common.{◌≡◌}
use Rattle.std.specs.Prelude.{find}
use Rattle.group_reports.specs.Extents.{all_extents, extents_in, is_only_on}
use Rattle.group_reports.proofs.checking.first_lost_by.Given as goal

abbrev pub invariant-loop-at : goal.invariant-loop-at
invariant-loop-at l = find (is_only_on l.disks l.disk) (extents_in l.catalog l.at-iterator) ≡ find (is_only_on l.disks l.disk) (all_extents l.catalog)
