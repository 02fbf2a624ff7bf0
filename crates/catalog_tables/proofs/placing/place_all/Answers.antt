use Rattle.catalog_tables.proofs.PlacingLaws.{placed_next}
use Rattle.catalog_tables.proofs.placing.place_all.Goals as goal

pub loop-at-preserved : goal.loop-at-preserved
loop-at-preserved c =
    let n = placed_next c.args.step c.loop-at.units c.place_chunk.new.units (c.in-Some.at.now, c.in-Some.chunk.now) c.loop-at.at-iterator c.next.new.self c.as_slice.result.now c.place_chunk.result _ _
    c.as_slice.ensures.homes c.place_chunk.ensures c.if-not-place_chunk.false c.in-Some.ensures.steps c.loop-at.invariant.fault c.loop-at.invariant.after in
    record { fault = n.0; after = n.1 }
