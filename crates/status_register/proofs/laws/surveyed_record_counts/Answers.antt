use Rattle.status_register.proofs.Meeting.{surveyed_record_counts}
use Rattle.status_register.proofs.laws.surveyed_record_counts.Goals as goal

pub returns : goal.returns
returns c = surveyed_record_counts
