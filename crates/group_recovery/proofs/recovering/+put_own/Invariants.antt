use Rattle.std.proofs.Common.{length}
use Rattle.group_recovery.proofs.recovering.+put_own.Given as goal

abbrev pub decreases-put_own : goal.decreases-put_own
decreases-put_own l = length l.headed.now
