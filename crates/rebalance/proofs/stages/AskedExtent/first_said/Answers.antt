use Rattle.std.proofs.Common.{sym, ◌∙◌}
use Rattle.rebalance.specs.Stages.{copy_says}
use Rattle.rebalance.proofs.Verdicts.{said_more}
use Rattle.rebalance.proofs.stages.AskedExtent.first_said.Goals as goal

pub loop-copy-preserved : goal.loop-copy-preserved
loop-copy-preserved c =
    let x = c.args.self.now in
    said_more (copy_says c.args.stage x.disks.now x.units.now x.shares.now x.extent.now) x.extent.now.copies c.loop-copy.copy c.said_by-next.result
    c.loop-copy-test.true c.said_by-next.ensures (sym c.is_some.ensures ∙ c.if-is_some.false) c.loop-copy.invariant
