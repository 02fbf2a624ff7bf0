use Rattle.std.proofs.Common.{length}
use Rattle.new_disks.proofs.failure_groups.+regular_groups.Given as goal

abbrev pub decreases-regular_groups : goal.decreases-regular_groups
decreases-regular_groups l = length l.disks.now
