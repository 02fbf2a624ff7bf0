use Rattle.std.proofs.Common.{length}
use Rattle.new_disks.proofs.taken.+has_pair.Given as goal

abbrev pub decreases-has_pair : goal.decreases-has_pair
decreases-has_pair l = length l.disks.now
