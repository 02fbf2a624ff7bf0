use Rattle.std.proofs.Common.{sym, ◌∙◌}
use Rattle.group_reports.specs.Extents.{is_only_on}
use Rattle.group_reports.proofs.Counting.{chunk_lost, chunk_not_lost}
use Rattle.group_reports.proofs.checking.first_lost_by.Goals as goal

pub returns-then-is_some : goal.returns-then-is_some
returns-then-is_some c =
    chunk_lost (is_only_on c.args.disks.now c.args.disk) c.args.catalog.now c.loop-at.at-iterator c.next.new.self (c.in-Some.at.now, c.in-Some.chunk.now) c.as_slice.result.now c.lost_in_chunk-found.result _
    c.as_slice.ensures.homes c.in-Some.ensures.steps c.lost_in_chunk-found.ensures (sym c.is_some.ensures ∙ c.if-is_some.true) c.loop-at.invariant

pub loop-at-preserved : goal.loop-at-preserved
loop-at-preserved c =
    chunk_not_lost (is_only_on c.args.disks.now c.args.disk) c.args.catalog.now c.loop-at.at-iterator c.next.new.self (c.in-Some.at.now, c.in-Some.chunk.now) c.as_slice.result.now c.lost_in_chunk-found.result _
    c.as_slice.ensures.homes c.in-Some.ensures.steps c.lost_in_chunk-found.ensures (sym c.is_some.ensures ∙ c.if-is_some.false) c.loop-at.invariant
