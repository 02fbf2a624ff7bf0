use Rattle.std.proofs.Common.{length}
use Rattle.new_disks.proofs.taken.+any_clashes.Given as goal

abbrev pub decreases-any_clashes : goal.decreases-any_clashes
decreases-any_clashes l = length l.disks.now
