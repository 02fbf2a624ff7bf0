use Rattle.std.proofs.Common.{inr, refl}
use Rattle.refusal_lines.specs.Refusals.{meaning_of}
use Rattle.new_groups.proofs.preparing.planned_group.Goals as goal

pub returns-in-Ok-None-clause-refused : goal.returns-in-Ok-None-clause-refused
unfolding meaning_of
returns-in-Ok-None-clause-refused c = inr refl

pub returns-clause-refused : goal.returns-clause-refused
unfolding meaning_of
returns-clause-refused c = inr refl
