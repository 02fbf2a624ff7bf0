use Rattle.mode_laws.proofs.Others.{expiry_changes}
use Rattle.mode_laws.proofs.expiry_changes_modes.Goals as goal

pub returns : goal.returns
returns c = expiry_changes
