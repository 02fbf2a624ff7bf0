use Rattle.std.proofs.Common.{length}
use Rattle.disk_joining.proofs.onlining.+image_from.Given as goal

abbrev pub decreases-image_from : goal.decreases-image_from
decreases-image_from l = length l.looked.now
