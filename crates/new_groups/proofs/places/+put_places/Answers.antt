use Rattle.std.proofs.Common.{inr, refl}
use Rattle.refusal_lines.specs.Refusals.{meaning_of}
use Rattle.new_groups.proofs.places.+put_places.Goals as goal

pub returns-then-is_err-clause-refused : goal.returns-then-is_err-clause-refused
unfolding meaning_of
returns-then-is_err-clause-refused t c = inr refl
