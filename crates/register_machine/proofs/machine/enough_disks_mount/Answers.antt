use Rattle.register_machine.proofs.Running.{all_can_be_mounted}
use Rattle.register_machine.proofs.machine.enough_disks_mount.Goals as goal

pub returns : goal.returns
returns c = all_can_be_mounted
