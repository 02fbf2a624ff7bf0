use Rattle.std.proofs.Common.{◌≡◌, take}
use Rattle.file_extents.proofs.placing.copy_units.Given as goal

abbrev pub invariant-loop-map : goal.invariant-loop-map
invariant-loop-map l = l.copy.items ≡ take l.map-index l.units
