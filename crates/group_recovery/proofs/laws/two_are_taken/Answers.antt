use Rattle.group_recovery.proofs.Searches.{two_are_taken}
use Rattle.group_recovery.proofs.laws.two_are_taken.Goals as goal

pub returns : goal.returns
returns c = two_are_taken
