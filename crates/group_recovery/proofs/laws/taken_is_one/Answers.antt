use Rattle.group_recovery.proofs.Taking.{taken_is_one}
use Rattle.group_recovery.proofs.laws.taken_is_one.Goals as goal

pub returns : goal.returns
returns c = taken_is_one
