use Rattle.std.proofs.Common.{inr}
use Rattle.file_extents.proofs.committing.give_back.Goals as goal

pub end_pending-requires-clause-whole : goal.end_pending-requires-clause-whole
end_pending-requires-clause-whole g c = λ is. (c.requires.takes is).0

pub end_pending-requires-clause-ready : goal.end_pending-requires-clause-ready
end_pending-requires-clause-ready g c = λ is. (c.requires.takes is).1

pub returns-in-Err-clause-cause : goal.returns-in-Err-clause-cause
returns-in-Err-clause-cause g c = inr c.in-Err.ensures.cause
