use Rattle.group_recovery.proofs.Mounting.{mounted_is_held}
use Rattle.group_recovery.proofs.laws.mounted_is_held.Goals as goal

pub returns : goal.returns
returns c = mounted_is_held
