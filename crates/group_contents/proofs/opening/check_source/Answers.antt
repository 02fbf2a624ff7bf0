use Rattle.std.proofs.Common.{inl, inr}
use Rattle.group_contents.proofs.opening.check_source.Goals as goal

pub returns-in-Err-clause-cause : goal.returns-in-Err-clause-cause
returns-in-Err-clause-cause c = inl c.in-Err.ensures.cause

pub returns-in-Some-clause-cause : goal.returns-in-Some-clause-cause
returns-in-Some-clause-cause c = inr (c.in-Ok.file, c.in-Ok.ensures.opened, c.in-Some.ensures)
