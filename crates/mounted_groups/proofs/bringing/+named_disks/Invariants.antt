use Rattle.std.proofs.Common.{length}
use Rattle.mounted_groups.proofs.bringing.+named_disks.Given as goal

abbrev pub decreases-named_disks : goal.decreases-named_disks
decreases-named_disks l = length l.disks.now
