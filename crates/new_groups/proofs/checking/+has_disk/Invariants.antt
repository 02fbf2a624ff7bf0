use Rattle.std.proofs.Common.{length}
use Rattle.new_groups.proofs.checking.+has_disk.Given as goal

abbrev pub decreases-has_disk : goal.decreases-has_disk
decreases-has_disk l = length l.disks.now
