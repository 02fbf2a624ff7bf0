use Rattle.rebalance.specs.Stages.{copy_says}
use Rattle.rebalance.proofs.Verdicts.{IsSaid}
use Rattle.rebalance.proofs.stages.AskedExtent.first_said.Given as goal

abbrev pub invariant-loop-copy : goal.invariant-loop-copy
invariant-loop-copy l = IsSaid (copy_says l.stage l.self.disks.now l.self.units.now l.self.shares.now l.self.extent.now) l.self.extent.now.copies l.copy
