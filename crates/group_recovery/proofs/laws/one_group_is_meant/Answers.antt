use Rattle.group_recovery.proofs.Mounting.{one_is_meant}
use Rattle.group_recovery.proofs.laws.one_group_is_meant.Goals as goal

pub returns : goal.returns
returns c = one_is_meant
