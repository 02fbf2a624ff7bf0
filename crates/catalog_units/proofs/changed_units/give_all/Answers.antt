use Rattle.std.proofs.Common.{arith}
use Rattle.catalog_units.specs.Giving.{changed_keys}
use Rattle.catalog_units.proofs.ChangeUnits.{length_keys, units_all, units_end}
use Rattle.catalog_units.proofs.changed_units.give_all.Goals as goal

pub loop-place-init : goal.loop-place-init
loop-place-init c = λ first e. units_all c.args.step first c.args.units.now (changed_keys c.args.put.now c.args.gone.now) c.args.extents.now e

pub give_one-requires-clause-units : goal.give_one-requires-clause-units
give_one-requires-clause-units c = (c.requires.units.0, c.loop-place.invariant c.requires.units.0 c.requires.units.1)

pub loop-place-preserved : goal.loop-place-preserved
loop-place-preserved c = λ first e. c.give_one.ensures first (c.loop-place.invariant first e)

pub returns : goal.returns
returns c = λ first e. units_end c.args.step first c.loop-place.units (changed_keys c.args.put.now c.args.gone.now) c.loop-place.place c.args.extents.now (omega (arith, c.loop-place-test.false, length_keys c.args.put.now c.args.gone.now)) (c.loop-place.invariant first e)
