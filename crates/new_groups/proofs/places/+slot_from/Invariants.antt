use Rattle.std.proofs.Common.{length}
use Rattle.new_groups.proofs.places.+slot_from.Given as goal

abbrev pub decreases-slot_from : goal.decreases-slot_from
decreases-slot_from l = length l.paths.now
