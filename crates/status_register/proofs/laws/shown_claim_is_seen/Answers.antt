use Rattle.status_register.proofs.Meeting.{shown_claim_is_seen}
use Rattle.status_register.proofs.laws.shown_claim_is_seen.Goals as goal

pub returns : goal.returns
returns c = shown_claim_is_seen
