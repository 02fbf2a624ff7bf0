use Rattle.std.proofs.Common.{length}
use Rattle.new_groups.proofs.places.+check_all_free.Given as goal

abbrev pub decreases-check_all_free : goal.decreases-check_all_free
decreases-check_all_free l = length l.disks.now
