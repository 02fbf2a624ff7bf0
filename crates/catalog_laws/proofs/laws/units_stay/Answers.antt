use Rattle.catalog.proofs.catalog_tables.SameUnits.{units_same}
use Rattle.catalog_laws.proofs.laws.units_stay.Goals as goal

pub returns : goal.returns
returns c = units_same
