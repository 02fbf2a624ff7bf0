use Rattle.std.proofs.Common.{arith}
use Rattle.catalog_tables.proofs.UnusedLaws.{reserved_fits}
use Rattle.catalog_tables.proofs.placing.reserved_units.Goals as goal

pub overflow_cast-result : goal.overflow_cast-result
overflow_cast-result c = omega (arith, c.reserved_units.ensures.units, reserved_fits c.args.shape.now c.requires)
