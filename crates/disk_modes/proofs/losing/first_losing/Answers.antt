use Rattle.std.proofs.Common.{sym, ◌∙◌}
use Rattle.group_reports.proofs.Counting.{chunk_lost, chunk_not_lost}
use Rattle.disk_modes.specs.Losing.{is_losing}
use Rattle.disk_modes.proofs.losing.first_losing.Goals as goal

pub returns-then-is_some : goal.returns-then-is_some
returns-then-is_some c =
    chunk_lost (is_losing c.args.counted.now c.args.disks.now c.args.named) c.args.catalog.now c.loop-at.at-iterator c.next.new.self (c.in-Some.at.now, c.in-Some.chunk.now) c.as_slice.result.now c.losing_in_chunk-found.result _
    c.as_slice.ensures.homes c.in-Some.ensures.steps c.losing_in_chunk-found.ensures (sym c.is_some.ensures ∙ c.if-is_some.true) c.loop-at.invariant

pub loop-at-preserved : goal.loop-at-preserved
loop-at-preserved c =
    chunk_not_lost (is_losing c.args.counted.now c.args.disks.now c.args.named) c.args.catalog.now c.loop-at.at-iterator c.next.new.self (c.in-Some.at.now, c.in-Some.chunk.now) c.as_slice.result.now c.losing_in_chunk-found.result _
    c.as_slice.ensures.homes c.in-Some.ensures.steps c.losing_in_chunk-found.ensures (sym c.is_some.ensures ∙ c.if-is_some.false) c.loop-at.invariant
