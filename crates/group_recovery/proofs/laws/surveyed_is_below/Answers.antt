use Rattle.group_recovery.proofs.Histories.{surveyed_is_below}
use Rattle.group_recovery.proofs.laws.surveyed_is_below.Goals as goal

pub returns : goal.returns
returns c = surveyed_is_below
