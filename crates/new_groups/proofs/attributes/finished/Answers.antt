use Rattle.std.proofs.Common.{inr, refl}
use Rattle.refusal_lines.specs.Refusals.{meaning_of}
use Rattle.new_groups.proofs.attributes.finished.Goals as goal

pub returns-then-not-is_allowed-clause-refused : goal.returns-then-not-is_allowed-clause-refused
unfolding meaning_of
returns-then-not-is_allowed-clause-refused c = inr refl
