use Rattle.std.proofs.Common.{length}
use Rattle.extent_copies.proofs.new_files.+has_group.Given as goal

abbrev pub decreases-has_group : goal.decreases-has_group
decreases-has_group l = length l.disks.now
