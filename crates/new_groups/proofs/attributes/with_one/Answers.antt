use Rattle.std.proofs.Common.{inr, refl}
use Rattle.refusal_lines.specs.Refusals.{meaning_of}
use Rattle.new_groups.proofs.attributes.with_one.Goals as goal

pub returns-in-Err-clause-refused : goal.returns-in-Err-clause-refused
unfolding meaning_of
returns-in-Err-clause-refused c = inr refl
