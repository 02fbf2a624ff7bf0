use Rattle.std.proofs.Common.{length}
use Rattle.group_recovery.proofs.recovering.+dead.Given as goal

abbrev pub decreases-dead : goal.decreases-dead
decreases-dead l = length l.headed.now
