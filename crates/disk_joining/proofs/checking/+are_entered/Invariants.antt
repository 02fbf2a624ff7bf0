use Rattle.std.proofs.Common.{length}
use Rattle.disk_joining.proofs.checking.+are_entered.Given as goal

abbrev pub decreases-are_entered : goal.decreases-are_entered
decreases-are_entered l = length l.disks.now
