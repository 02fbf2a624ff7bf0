use Rattle.disk_modes.proofs.Sized.{LargeSoFar}
use Rattle.disk_modes.proofs.sizes.check_sizes.Given as goal

abbrev pub invariant-loop-disk : goal.invariant-loop-disk
invariant-loop-disk l = LargeSoFar l.asked l.m l.disk
