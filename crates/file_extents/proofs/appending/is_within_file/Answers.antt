use Rattle.std.proofs.Common.{◌∙◌}
use Rattle.file_extents.proofs.Within.{at_start, stopped}
use Rattle.file_extents.proofs.appending.is_within_file.Goals as goal

pub loop-at-init : goal.loop-at-init
loop-at-init c =
    at_start c.args.file c.args.copies c.args.catalog.now.tables.extents c.into_iter-at-iterator.result c.shape-shape.ensures.rules.rules.tables.extents.0.0 (c.into_iter-at-iterator.ensures.into_iter_gives ∙ c.chunks_from-at-items.ensures)

pub returns-then-at-file : goal.returns-then-at-file
returns-then-at-file c =
    stopped c.args.file c.args.copies c.args.catalog.now.tables.extents c.loop-at.at-iterator c.next.new.self (c.in-Some.at.now, c.in-Some.chunk.now) c.in-Some.ensures.steps c.if-at-file.true c.loop-at.invariant
