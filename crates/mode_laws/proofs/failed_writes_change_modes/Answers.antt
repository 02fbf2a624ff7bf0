use Rattle.mode_laws.proofs.Others.{failed_are_taken, failed_changes}
use Rattle.mode_laws.proofs.failed_writes_change_modes.Goals as goal

pub returns : goal.returns
returns c = record { entries = failed_changes; failed = failed_are_taken }
