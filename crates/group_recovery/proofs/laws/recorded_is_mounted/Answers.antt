use Rattle.group_recovery.proofs.Mounting.{recorded_is_mounted}
use Rattle.group_recovery.proofs.laws.recorded_is_mounted.Goals as goal

pub returns : goal.returns
returns c = recorded_is_mounted
