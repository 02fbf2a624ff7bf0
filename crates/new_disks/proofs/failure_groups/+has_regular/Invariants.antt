use Rattle.std.proofs.Common.{length}
use Rattle.new_disks.proofs.failure_groups.+has_regular.Given as goal

abbrev pub decreases-has_regular : goal.decreases-has_regular
decreases-has_regular l = length l.disks.now
