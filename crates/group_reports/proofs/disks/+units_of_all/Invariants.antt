use Rattle.std.proofs.Common.{length}
use Rattle.group_reports.proofs.disks.+units_of_all.Given as goal

abbrev pub decreases-units_of_all : goal.decreases-units_of_all
decreases-units_of_all l = length l.disks.now
