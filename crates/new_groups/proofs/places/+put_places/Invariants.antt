use Rattle.std.proofs.Common.{length}
use Rattle.new_groups.proofs.places.+put_places.Given as goal

abbrev pub decreases-put_places : goal.decreases-put_places
decreases-put_places l = length l.disks.now
