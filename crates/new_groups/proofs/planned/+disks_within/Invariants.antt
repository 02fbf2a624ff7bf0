use Rattle.std.proofs.Common.{length}
use Rattle.new_groups.proofs.planned.+disks_within.Given as goal

abbrev pub decreases-disks_within : goal.decreases-disks_within
decreases-disks_within l = length l.groups.now
