use Rattle.std.proofs.Common.{inl, inr, refl}
use Rattle.status_register.proofs.storing.put_on.Goals as goal

pub returns-in-Ok-clause-takes : goal.returns-in-Ok-clause-takes
returns-in-Ok-clause-takes g c = inr (c.in-Ok.ensures.done, c.with.ensures)

pub returns-in-Err-clause-takes : goal.returns-in-Err-clause-takes
returns-in-Err-clause-takes g c = inl (c.in-Err.ensures.cause, refl)
