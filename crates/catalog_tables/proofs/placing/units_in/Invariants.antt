use Rattle.std.proofs.Common.{◌≡◌, drop}
use Rattle.catalog_tables.specs.Placing.{disk_units}
use Rattle.catalog_tables.proofs.placing.units_in.Given as goal

abbrev pub invariant-loop-entry : goal.invariant-loop-entry
invariant-loop-entry l = disk_units (drop l.entry-index l.entries) l.number ≡ disk_units l.entries l.number
