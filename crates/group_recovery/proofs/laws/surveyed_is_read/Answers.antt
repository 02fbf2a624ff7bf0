use Rattle.group_recovery.proofs.Surveyed.{surveyed_is_read}
use Rattle.group_recovery.proofs.laws.surveyed_is_read.Goals as goal

pub returns : goal.returns
returns c = surveyed_is_read
