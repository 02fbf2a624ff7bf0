use Rattle.std.proofs.Common.{length}
use Rattle.group_pieces.proofs.writing.+have_failed.Given as goal

abbrev pub decreases-have_failed : goal.decreases-have_failed
decreases-have_failed l = length l.places.now
