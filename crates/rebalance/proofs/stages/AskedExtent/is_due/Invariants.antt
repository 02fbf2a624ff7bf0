use Rattle.rebalance.specs.Stages.{is_due_at}
use Rattle.rebalance.proofs.Verdicts.{IsAny}
use Rattle.rebalance.proofs.stages.AskedExtent.is_due.Given as goal

abbrev pub invariant-loop-copy : goal.invariant-loop-copy
invariant-loop-copy l = IsAny (is_due_at l.stage l.self.disks.now l.self.units.now l.self.shares.now l.self.extent.now) l.self.extent.now.copies l.copy
