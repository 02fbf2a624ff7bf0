use Rattle.mode_laws.proofs.Others.{mount_changes}
use Rattle.mode_laws.proofs.mounts_change_modes.Goals as goal

pub returns : goal.returns
returns c = mount_changes
