use Rattle.std.proofs.Common.{length}
use Rattle.new_disks.proofs.taken.+clashes.Given as goal

abbrev pub decreases-clashes : goal.decreases-clashes
decreases-clashes l = length l.rows.now
