use Rattle.std.proofs.Common.{arith}
use Rattle.catalog_tables.proofs.PlacingLaws.{extent_next, extent_not, extents_end, units_some}
use Rattle.catalog_tables.proofs.placing.place_chunk.Goals as goal

pub place_extent-requires : goal.place_extent-requires
place_extent-requires c = units_some c.args.step c.loop-homes.index c.units_of.result c.units_of.ensures.units

pub returns-then-not-place_extent : goal.returns-then-not-place_extent
returns-then-not-place_extent c =
    extent_not c.args.step c.args.file c.loop-homes.index c.loop-homes.homes-index c.units_of.result c.loop-homes.units c.place_extent.new.units c.args.extents.now c.homes-item.result c.place_extent.result _
    c.loop-homes-test.true c.homes-item.is c.units_of.ensures.units c.place_extent.ensures c.if-not-place_extent.true c.loop-homes.invariant.after

pub loop-homes-preserved : goal.loop-homes-preserved
loop-homes-preserved c =
    record {
      after = extent_next c.args.step c.args.file c.loop-homes.index c.loop-homes.homes-index c.units_of.result c.loop-homes.units c.place_extent.new.units c.args.extents.now c.homes-item.result c.place_extent.result _
          c.loop-homes-test.true c.homes-item.is c.units_of.ensures.units c.place_extent.ensures c.if-not-place_extent.false c.loop-homes.invariant.after;
      index = omega (arith, c.loop-homes.invariant.index);
    }

pub returns : goal.returns
returns c =
    extents_end c.args.step c.args.file c.loop-homes.index c.loop-homes.homes-index c.loop-homes.units c.args.extents.now _ (omega (arith, c.loop-homes-test.false)) c.loop-homes.invariant.after
