use Rattle.std.proofs.Common.{length}
use Rattle.group_reports.proofs.disks.+offline_disks.Given as goal

abbrev pub decreases-offline_disks : goal.decreases-offline_disks
decreases-offline_disks l = length l.disks.now
