use Rattle.group_recovery.proofs.Renewing.{renewed_follows}
use Rattle.group_recovery.proofs.laws.renewed_follows.Goals as goal

pub returns : goal.returns
returns c = renewed_follows
