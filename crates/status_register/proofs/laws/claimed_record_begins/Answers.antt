use Rattle.status_register.proofs.Meeting.{claimed_record_begins}
use Rattle.status_register.proofs.laws.claimed_record_begins.Goals as goal

pub returns : goal.returns
returns c = claimed_record_begins
