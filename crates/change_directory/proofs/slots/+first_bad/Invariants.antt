use Rattle.std.proofs.Common.{length}
use Rattle.change_directory.proofs.slots.+first_bad.Given as goal

abbrev pub decreases-first_bad : goal.decreases-first_bad
decreases-first_bad l = length l.images.now
