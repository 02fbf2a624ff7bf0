use Rattle.catalog_tables.proofs.UnusedLaws.{one_more}
use Rattle.catalog_tables.proofs.placing.unused_units.Goals as goal

pub loop-number-preserved : goal.loop-number-preserved
loop-number-preserved c =
    one_more c.args.shape.now c.args.entries.now c.reserved_units-first.result c.loop-number.number c.disk_units.result c.loop-number.units.items c.push.new.units.items c.in_ok-map.map
    c.loop-number.invariant c.reserved_units-first.ensures c.disk_units.ensures.units c.in_ok-map.ensures c.in_ok-push.ensures
