use Rattle.catalog_units.proofs.UnitOrder.{used_place}
use Rattle.catalog_units.proofs.giving.give.Goals as goal

pub give-requires-clause-used : goal.give-requires-clause-used
give-requires-clause-used c = used_place c.args.units.now c.args.home c.home.inside.disk c.home.inside.unit c.args.len c.index-units-disk.result c.home.view_is c.requires.some c.requires.taken c.index-units-disk.is
