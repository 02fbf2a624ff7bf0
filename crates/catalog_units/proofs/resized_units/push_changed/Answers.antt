use Rattle.std.proofs.lemmas.Option.{slice_get_past}
use Rattle.catalog_units.proofs.ResizedUnits.{changed_past}
use Rattle.catalog_units.proofs.resized_units.push_changed.Goals as goal

pub returns-in-None : goal.returns-in-None
returns-in-None c = changed_past _ _ _ _ (slice_get_past c.args.units.now c.args.number c.in-None.ensures.lookup.3)
