use Rattle.status_register.proofs.Meeting.{surveyed_epoch_above}
use Rattle.status_register.proofs.laws.surveyed_epoch_is_above.Goals as goal

pub returns : goal.returns
returns c = surveyed_epoch_above
