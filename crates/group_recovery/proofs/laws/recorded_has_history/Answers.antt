use Rattle.group_recovery.proofs.Mounting.{recorded_has_history}
use Rattle.group_recovery.proofs.laws.recorded_has_history.Goals as goal

pub returns : goal.returns
returns c = recorded_has_history
