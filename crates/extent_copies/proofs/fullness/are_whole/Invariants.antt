use Rattle.extent_copies.specs.Usable.{is_whole_at}
use Rattle.extent_copies.proofs.FullExtents.{AreAll}
use Rattle.extent_copies.proofs.fullness.are_whole.Given as goal

abbrev pub invariant-loop-copy : goal.invariant-loop-copy
invariant-loop-copy l = AreAll (is_whole_at l.disks l.extent) l.extent.copies l.copy
