use Rattle.catalog_units.specs.Giving.{changed_keys}
use Rattle.catalog_units.proofs.ChangeUnits.{units_other}
use Rattle.catalog_units.proofs.changed_units.change_units.Goals as goal

pub returns : goal.returns
returns c = λ first after e f. c.mark_all.ensures first after (units_other c.args.step (changed_keys c.args.put.now c.args.gone.now) c.args.old.now c.args.new.now first c.give_all.new.units c.requires.old.0 c.requires.new.0 c.requires.others (c.give_all.ensures first e)) f
