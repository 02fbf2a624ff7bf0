use Rattle.asm_placement.proofs.Places.{fine_by_order}
use Rattle.striping.proofs.layout.place_of.Goals as goal

pub returns-in-Fine : goal.returns-in-Fine
returns-in-Fine c =
    rw (c.in-Fine.is, c.units_of.ensures.units, c.chunk_of-chunk.ensures) (fine_by_order c.args.layout.au c.args.layout.step c.args.offset c.in_order-extent.result.0 c.in_order-extent.result.1 c.requires c.in_order-extent.ensures)
