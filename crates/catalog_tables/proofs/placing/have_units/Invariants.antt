use Rattle.std.proofs.Common.{◌≡◌, ◌<◌, ℕ}
use Rattle.std.specs.List.{slice_get}
use Rattle.catalog_tables.specs.Placing.{disk_units, map_units}
use Rattle.catalog_tables.proofs.placing.have_units.Given as goal

abbrev pub invariant-loop-number : goal.invariant-loop-number
invariant-loop-number l = (d : ℕ) → d < l.number → map_units (slice_get l.units d) ≡ disk_units l.entries d
