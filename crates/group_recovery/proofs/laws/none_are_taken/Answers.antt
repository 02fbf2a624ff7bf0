use Rattle.group_recovery.proofs.Searches.{none_are_taken}
use Rattle.group_recovery.proofs.laws.none_are_taken.Goals as goal

pub returns : goal.returns
returns c = none_are_taken
