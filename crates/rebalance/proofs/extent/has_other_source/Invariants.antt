use Rattle.rebalance.specs.Extents.{is_other_source_at}
use Rattle.rebalance.proofs.Verdicts.{IsAny}
use Rattle.rebalance.proofs.extent.has_other_source.Given as goal

abbrev pub invariant-loop-other : goal.invariant-loop-other
invariant-loop-other l = IsAny (is_other_source_at l.disks l.extent l.copy) l.extent.copies l.other
