use Rattle.std.proofs.Common.{length}
use Rattle.group_recovery.proofs.found.+has_name.Given as goal

abbrev pub decreases-has_name : goal.decreases-has_name
decreases-has_name l = length l.headed.now
