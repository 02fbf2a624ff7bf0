use Rattle.std.proofs.Common.{arith}
use Rattle.catalog_tables.proofs.PlacingLaws.{units_some}
use Rattle.catalog_units.proofs.GivingLaws.{extent_on, extent_there, extents_done}
use Rattle.catalog_units.proofs.giving.give_chunk.Goals as goal

pub give_extent-requires-clause-some : goal.give_extent-requires-clause-some
give_extent-requires-clause-some c = units_some c.args.step c.loop-homes.index c.units_of.result c.units_of.ensures.units

pub give_extent-requires-clause-taken : goal.give_extent-requires-clause-taken
give_extent-requires-clause-taken c =
    extent_there c.args.step c.args.file c.loop-homes.index c.loop-homes.homes-index c.units_of.result c.loop-homes.units c.args.extents.now c.homes-item.result c.loop-homes-test.true c.homes-item.is c.units_of.ensures.units
    c.requires.taken.0 (c.loop-homes.invariant.after c.requires.taken.0 c.requires.taken.1)

pub loop-homes-preserved : goal.loop-homes-preserved
loop-homes-preserved c = record {
  after = λ before e. extent_on c.args.step c.args.file c.loop-homes.index c.loop-homes.homes-index c.units_of.result c.loop-homes.units c.give_extent.new.units c.args.extents.now c.homes-item.result c.loop-homes-test.true c.homes-item.is c.units_of.ensures.units
      c.give_extent.ensures before (c.loop-homes.invariant.after before e);
  index = omega (arith, c.loop-homes.invariant.index);
}

pub returns : goal.returns
returns c = λ before e. extents_done c.args.step c.args.file c.loop-homes.index c.loop-homes.homes-index c.loop-homes.units c.args.extents.now (omega (arith, c.loop-homes-test.false)) before (c.loop-homes.invariant.after before e)
