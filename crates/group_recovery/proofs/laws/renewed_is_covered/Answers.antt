use Rattle.group_recovery.proofs.Renewing.{renewed_is_covered}
use Rattle.group_recovery.proofs.laws.renewed_is_covered.Goals as goal

pub returns : goal.returns
returns c = renewed_is_covered
