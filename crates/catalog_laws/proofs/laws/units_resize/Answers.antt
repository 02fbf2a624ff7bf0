use Rattle.catalog.proofs.catalog_units.ResizedUnits.{units_are_resized, units_resize}
use Rattle.catalog_laws.proofs.laws.units_resize.Goals as goal

pub returns-clause-there : goal.returns-clause-there
returns-clause-there c = units_resize

pub returns-clause-alone : goal.returns-clause-alone
returns-clause-alone c = units_are_resized
