use Rattle.std.proofs.Common.{length}
use Rattle.group_recovery.proofs.choosing.+choose.Given as goal

abbrev pub decreases-choose : goal.decreases-choose
decreases-choose g l = length l.ids.now
