use Rattle.group_recovery.proofs.Modes.{changed_is_renewed}
use Rattle.group_recovery.proofs.laws.changed_is_renewed.Goals as goal

pub returns : goal.returns
returns c = changed_is_renewed
