use Rattle.std.proofs.Common.{inl, inr}
use Rattle.group_contents.proofs.opening.open_span.Goals as goal

pub returns-in-Err-clause-cause : goal.returns-in-Err-clause-cause
returns-in-Err-clause-cause c = inl c.in-Err.ensures.cause

pub returns-in-Err-check_span-clause-cause : goal.returns-in-Err-check_span-clause-cause
returns-in-Err-check_span-clause-cause c = inr (c.in-Ok.file, c.in-Ok.ensures.opened, c.in-Err-check_span.ensures.cause)
