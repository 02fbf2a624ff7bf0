use Rattle.group_recovery.proofs.Renewing.{renewed_births}
use Rattle.group_recovery.proofs.laws.renewed_births_are_covered.Goals as goal

pub returns : goal.returns
returns c = renewed_births
