use Rattle.std.proofs.Common.{length}
use Rattle.disk_joining.proofs.checking.+records_disk.Given as goal

abbrev pub decreases-records_disk : goal.decreases-records_disk
decreases-records_disk l = length l.records.now
