use Rattle.std.proofs.Common.{length}
use Rattle.change_directory.proofs.slots.+image_from.Given as goal

abbrev pub decreases-image_from : goal.decreases-image_from
decreases-image_from l = length l.images.now
