use Rattle.std.proofs.Common.{◌∙◌}
use Rattle.group_reports.proofs.Units.{at_start, stopped}
use Rattle.group_reports.proofs.usage.file_units_by.Goals as goal

pub loop-at-init : goal.loop-at-init
loop-at-init c =
    at_start c.args.file c.args.catalog.now.shape.step c.args.catalog.now c.into_iter-at-iterator.result c.most_chunks-most.ensures.tables (c.into_iter-at-iterator.ensures.into_iter_gives ∙ c.chunks_from-at-items.ensures)

pub returns-then-at-file-clause-units : goal.returns-then-at-file-clause-units
returns-then-at-file-clause-units c =
    stopped c.args.file c.args.catalog.now.shape.step c.loop-at.units c.args.catalog.now.tables.extents c.loop-at.at-iterator c.next.new.self (c.in-Some.at.now, c.in-Some.chunk.now) c.in-Some.ensures.steps c.if-at-file.true
    c.loop-at.invariant
