use Rattle.group_recovery.proofs.Renewing.{renewed_begins}
use Rattle.group_recovery.proofs.laws.renewed_begins.Goals as goal

pub returns : goal.returns
returns c = renewed_begins
