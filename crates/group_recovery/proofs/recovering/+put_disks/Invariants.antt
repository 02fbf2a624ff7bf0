use Rattle.std.proofs.Common.{length}
use Rattle.group_recovery.proofs.recovering.+put_disks.Given as goal

abbrev pub decreases-put_disks : goal.decreases-put_disks
decreases-put_disks l = length l.headed.now
