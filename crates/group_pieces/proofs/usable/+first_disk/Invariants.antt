use Rattle.std.proofs.Common.{length}
use Rattle.group_pieces.proofs.usable.+first_disk.Given as goal

abbrev pub decreases-first_disk : goal.decreases-first_disk
decreases-first_disk l = length l.places.now
