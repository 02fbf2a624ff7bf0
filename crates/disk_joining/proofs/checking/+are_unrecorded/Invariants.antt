use Rattle.std.proofs.Common.{length}
use Rattle.disk_joining.proofs.checking.+are_unrecorded.Given as goal

abbrev pub decreases-are_unrecorded : goal.decreases-are_unrecorded
decreases-are_unrecorded l = length l.records.now
