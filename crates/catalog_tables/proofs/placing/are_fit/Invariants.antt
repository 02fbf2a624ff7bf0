use Rattle.std.proofs.Common.{◌<◌, ℕ}
use Rattle.std.specs.List.{slice_get}
use Rattle.catalog_tables.specs.Placing.{IsFit, disk_units}
use Rattle.catalog_tables.proofs.placing.are_fit.Given as goal

abbrev pub invariant-loop-number : goal.invariant-loop-number
invariant-loop-number l = (d : ℕ) → d < l.number → IsFit (slice_get l.units d) (disk_units l.entries d)
