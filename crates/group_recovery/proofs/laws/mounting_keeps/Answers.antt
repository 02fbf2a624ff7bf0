use Rattle.group_recovery.proofs.Mounting.{mounting_keeps}
use Rattle.group_recovery.proofs.laws.mounting_keeps.Goals as goal

pub returns : goal.returns
returns c = mounting_keeps
