use Rattle.group_recovery.proofs.Bringing.{bringing_keeps}
use Rattle.group_recovery.proofs.laws.bringing_keeps.Goals as goal

pub returns : goal.returns
returns c = bringing_keeps
