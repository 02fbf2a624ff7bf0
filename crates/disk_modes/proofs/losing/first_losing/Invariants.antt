use Rattle.std.proofs.Common.{◌≡◌}
use Rattle.std.specs.Prelude.{find}
use Rattle.group_reports.specs.Extents.{all_extents, extents_in}
use Rattle.disk_modes.specs.Losing.{is_losing}
use Rattle.disk_modes.proofs.losing.first_losing.Given as goal

abbrev pub invariant-loop-at : goal.invariant-loop-at
invariant-loop-at l = find (is_losing l.counted l.disks l.named) (extents_in l.catalog l.at-iterator) ≡ find (is_losing l.counted l.disks l.named) (all_extents l.catalog)
