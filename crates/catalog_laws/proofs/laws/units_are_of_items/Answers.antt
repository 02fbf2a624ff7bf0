use Rattle.catalog_laws.proofs.UnitLaws.{units_are}
use Rattle.catalog_laws.proofs.laws.units_are_of_items.Goals as goal

pub returns : goal.returns
returns c = units_are
