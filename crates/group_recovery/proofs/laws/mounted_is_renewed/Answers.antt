use Rattle.group_recovery.proofs.Modes.{mounted_is_renewed}
use Rattle.group_recovery.proofs.laws.mounted_is_renewed.Goals as goal

pub returns : goal.returns
returns c = mounted_is_renewed
