use Rattle.std.proofs.Common.{length}
use Rattle.group_recovery.proofs.record.+disks_of.Given as goal

abbrev pub decreases-disks_of : goal.decreases-disks_of
decreases-disks_of l = length l.copies.now
