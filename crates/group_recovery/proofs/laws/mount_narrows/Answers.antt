use Rattle.group_recovery.proofs.Narrowing.{mount_narrows}
use Rattle.group_recovery.proofs.laws.mount_narrows.Goals as goal

pub returns : goal.returns
returns c = mount_narrows
