use Rattle.std.proofs.Common.{inl, refl}
use Rattle.refusal_lines.specs.Refusals.{meaning_of}
use Rattle.group_contents.proofs.removing.plan_drop.Goals as goal

pub returns-in-Err-clause-refused : goal.returns-in-Err-clause-refused
unfolding meaning_of
returns-in-Err-clause-refused c = inl refl
