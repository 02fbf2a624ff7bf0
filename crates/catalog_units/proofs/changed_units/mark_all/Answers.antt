use Rattle.std.proofs.Common.{◌+◌, ◌-◌, length, arith}
use Rattle.catalog_units.specs.Giving.{changed_keys}
use Rattle.catalog_units.proofs.ChangeUnits.{length_keys, marked_all, marked_more, units_start}
use Rattle.catalog_units.proofs.changed_units.mark_all.Goals as goal

pub loop-done-init : goal.loop-done-init
loop-done-init c = λ first after e f. units_start c.args.step first c.args.units.now (changed_keys c.args.put.now c.args.gone.now) _ c.args.extents.now (omega (arith, length_keys c.args.put.now c.args.gone.now)) e

pub loop-done-preserved : goal.loop-done-preserved
loop-done-preserved c = λ first after e f.
    marked_more c.args.step (changed_keys c.args.put.now c.args.gone.now) (length c.args.put.now + length c.args.gone.now - 1 - c.loop-done.done) (length c.args.put.now + length c.args.gone.now - c.loop-done.done) (length c.args.put.now + length c.args.gone.now - (c.loop-done.done + 1))
    c.args.extents.now c.loop-done.units c.mark_one.new.units first after (omega (arith, c.loop-done-test.true)) (omega (arith, c.loop-done-test.true)) c.mark_one.ensures f (c.loop-done.invariant first after e f)

pub returns : goal.returns
returns c = λ first after e f.
    marked_all c.args.step (changed_keys c.args.put.now c.args.gone.now) (length c.args.put.now + length c.args.gone.now - c.loop-done.done) c.args.extents.now c.loop-done.units first after (omega (arith, c.loop-done-test.false)) f (c.loop-done.invariant first after e f)
