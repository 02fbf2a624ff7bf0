use Rattle.std.proofs.Common.{length}
use Rattle.new_groups.proofs.places.+is_of_session.Given as goal

abbrev pub decreases-is_of_session : goal.decreases-is_of_session
decreases-is_of_session l = length l.taken.now
