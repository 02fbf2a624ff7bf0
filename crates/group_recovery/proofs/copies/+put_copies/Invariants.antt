use Rattle.std.proofs.Common.{length}
use Rattle.group_recovery.proofs.copies.+put_copies.Given as goal

abbrev pub decreases-put_copies : goal.decreases-put_copies
decreases-put_copies l = length l.headed.now
