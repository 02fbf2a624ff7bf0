use Rattle.status_register.proofs.Filling.{still_slots}
use Rattle.store_tests.proofs.registers.trials.claim_and_create.Goals as goal

pub first-requires-clause-slots : goal.first-requires-clause-slots
first-requires-clause-slots g c = λ m h. still_slots (c.attach_all.ensures c.if-not-attach_all.false m h) c.claim_first.ensures.calls.attached
