use Rattle.std.proofs.Common.{length}
use Rattle.group_recovery.proofs.alike.+shape_in.Given as goal

abbrev pub decreases-shape_in : goal.decreases-shape_in
decreases-shape_in l = length l.headed.now
