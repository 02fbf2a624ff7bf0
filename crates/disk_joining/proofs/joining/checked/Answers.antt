use Rattle.std.proofs.Common.{refl}
use Rattle.refusal_lines.specs.Refusals.{meaning_of}
use Rattle.disk_joining.proofs.joining.checked.Goals as goal

pub returns-in-Err-clause-refused : goal.returns-in-Err-clause-refused
unfolding meaning_of
returns-in-Err-clause-refused c = refl

pub returns-then-not-may_join-clause-refused : goal.returns-then-not-may_join-clause-refused
unfolding meaning_of
returns-then-not-may_join-clause-refused c = refl

pub returns-then-not-are_asked-clause-refused : goal.returns-then-not-are_asked-clause-refused
unfolding meaning_of
returns-then-not-are_asked-clause-refused c = refl
