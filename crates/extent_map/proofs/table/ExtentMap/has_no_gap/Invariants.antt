use Rattle.std.proofs.Common.{◌≡◌, None}
use Rattle.extent_map.specs.Extents.{has_no_gap}
use Rattle.extent_map.proofs.table.ExtentMap.has_no_gap.Given as goal

abbrev pub invariant-loop-at : goal.invariant-loop-at
invariant-loop-at l = has_no_gap l.past l.at-iterator ≡ has_no_gap None l.self
