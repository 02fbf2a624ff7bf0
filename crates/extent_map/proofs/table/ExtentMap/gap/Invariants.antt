use Rattle.std.proofs.Common.{◌≡◌, None}
use Rattle.extent_map.specs.Faults.{gap_from}
use Rattle.extent_map.proofs.table.ExtentMap.gap.Given as goal

abbrev pub invariant-loop-at : goal.invariant-loop-at
invariant-loop-at l = gap_from l.past l.at-iterator ≡ gap_from None l.self
