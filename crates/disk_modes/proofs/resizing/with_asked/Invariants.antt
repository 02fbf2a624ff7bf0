use Rattle.disk_modes.proofs.Resized.{IsBelow}
use Rattle.disk_modes.proofs.resizing.with_asked.Given as goal

abbrev pub invariant-loop-disk : goal.invariant-loop-disk
invariant-loop-disk l = IsBelow l.m l.asked l.status l.disk l.next
