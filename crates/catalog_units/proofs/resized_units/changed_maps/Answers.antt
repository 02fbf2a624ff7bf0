use Rattle.std.proofs.Common.{arith}
use Rattle.catalog_units.proofs.ResizedUnits.{changed_done, changed_more}
use Rattle.catalog_units.proofs.resized_units.changed_maps.Goals as goal

pub loop-number-preserved : goal.loop-number-preserved
loop-number-preserved c =
    changed_more c.args.entries.now c.args.units.now c.loop-number.number c.loop-number.changed.items c.push_changed.new.changed.items c.loop-number.invariant c.in_ok-push_changed.ensures

pub returns : goal.returns
returns c = changed_done c.args.entries.now c.args.units.now c.loop-number.number c.loop-number.changed.items c.loop-number.invariant (omega arith)
