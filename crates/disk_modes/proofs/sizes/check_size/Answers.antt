use Rattle.std.proofs.Common.{ap, ◌∙◌}
use Rattle.group_reports.specs.catalog_tables.Tables.{Catalogued}
use Rattle.disk_modes.proofs.Sized.{large_enough}
use Rattle.disk_modes.proofs.sizes.check_size.Goals as goal

pub returns-clause-large : goal.returns-clause-large
returns-clause-large c = λ has.
    large_enough c.args.m.now c.args.asked.now c.args.disk c.args.used c.units_asked-units.result c.image_units.result c.needed_units-need.result c.shape.result c.requires c.units_asked-units.ensures c.image_units.ensures
    (c.shape.ensures.shape ∙ ap (λ (k : Catalogued). k.shape) c.catalog.ensures) c.needed_units-need.ensures c.if-image_units-units.false c.if-units-need.false
