use Rattle.group_recovery.proofs.Leaving.{left_users_are_kept}
use Rattle.group_recovery.proofs.laws.left_users_are_kept.Goals as goal

pub returns : goal.returns
returns c = left_users_are_kept
