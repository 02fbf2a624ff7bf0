use Rattle.extent_copies.specs.Extents.{can_be_read_at}
use Rattle.rebalance.proofs.Verdicts.{IsAny}
use Rattle.rebalance.proofs.extent.has_source.Given as goal

abbrev pub invariant-loop-copy : goal.invariant-loop-copy
invariant-loop-copy l = IsAny (can_be_read_at l.disks l.extent) l.extent.copies l.copy
