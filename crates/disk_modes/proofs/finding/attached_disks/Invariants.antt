use Rattle.disk_modes.proofs.Found.{AreAttachedBelow}
use Rattle.disk_modes.proofs.finding.attached_disks.Given as goal

abbrev pub invariant-loop-disk : goal.invariant-loop-disk
invariant-loop-disk l = AreAttachedBelow l.m l.disk l.disks
