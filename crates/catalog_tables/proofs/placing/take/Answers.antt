use Rattle.catalog_tables.proofs.PlacingLaws.{taken_here}
use Rattle.catalog_tables.proofs.placing.take.Goals as goal

pub returns : goal.returns
returns c =
    taken_here c.args.units.now c.args.len c.index-units-disk.result c.mark.new.self c.mark.result c.home.view_is c.if-disk-units.false c.mark.ensures.free c.mark.ensures.after
