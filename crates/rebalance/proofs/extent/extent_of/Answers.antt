use Rattle.catalog_laws.proofs.catalog_tables.PlacingLaws.{units_some}
use Rattle.rebalance.proofs.extent.extent_of.Goals as goal

pub returns-clause-long : goal.returns-clause-long
returns-clause-long c = units_some _ _ c.units_of.result c.units_of.ensures
