use Rattle.status_register.proofs.Completing.{stored_record_completes}
use Rattle.status_register.proofs.laws.stored_record_completes.Goals as goal

pub returns : goal.returns
returns c = stored_record_completes
