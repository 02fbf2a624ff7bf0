use Rattle.std.proofs.Common.{length}
use Rattle.disk_joining.proofs.asked.+put_disks.Given as goal

abbrev pub decreases-put_disks : goal.decreases-put_disks
decreases-put_disks l = length l.disks.now
