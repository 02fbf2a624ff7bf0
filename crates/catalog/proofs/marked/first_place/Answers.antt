use Rattle.catalog.proofs.MarkedExtents.{place_passed}
use Rattle.catalog.proofs.marked.first_place.Goals as goal

pub loop-place-preserved : goal.loop-place-preserved
loop-place-preserved c =
    place_passed c.args.disk c.args.from c.loop-place.place c.args.marks.now c.args.homes.now c.index-homes-place.result c.has_stale_on.result c.requires.homes c.loop-place-test.true c.loop-place.invariant
    c.index-homes-place.is c.has_stale_on.ensures c.if-has_stale_on.false
