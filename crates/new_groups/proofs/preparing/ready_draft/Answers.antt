use Rattle.std.proofs.Common.{refl}
use Rattle.refusal_lines.specs.Refusals.{meaning_of}
use Rattle.new_groups.proofs.preparing.ready_draft.Goals as goal

pub returns-then-draft-id-clause-refused : goal.returns-then-draft-id-clause-refused
unfolding meaning_of
returns-then-draft-id-clause-refused c = refl

pub returns-in-Err-clause-refused : goal.returns-in-Err-clause-refused
unfolding meaning_of
returns-in-Err-clause-refused c = refl
