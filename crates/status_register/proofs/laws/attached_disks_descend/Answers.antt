use Rattle.status_register.proofs.Ordering.{attached_descend}
use Rattle.status_register.proofs.laws.attached_disks_descend.Goals as goal

pub returns : goal.returns
returns c = attached_descend
