use Rattle.std.proofs.Common.{length}
use Rattle.extent_copies.proofs.new_files.+groups_in.Given as goal

abbrev pub decreases-groups_in : goal.decreases-groups_in
decreases-groups_in l = length l.disks.now
