use Rattle.status_register.proofs.RaisingRecords.{stored_records_fit}
use Rattle.status_register.proofs.laws.stored_records_fit.Goals as goal

pub returns : goal.returns
returns c = stored_records_fit
