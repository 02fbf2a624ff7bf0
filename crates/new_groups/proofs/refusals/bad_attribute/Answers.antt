use Rattle.std.proofs.Common.{inl, inr, ℕ, List, refl, ap}
use Rattle.asm_group.specs.Refusal.{BadAttribute}
use Rattle.refusal_lines.specs.Refusals.{meaning_of}
use Rattle.new_groups.proofs.refusals.bad_attribute.Goals as goal

pub returns-in-Ok : goal.returns-in-Ok
unfolding meaning_of
returns-in-Ok c = inl (ap (λ (t : List ℕ). BadAttribute t) c.in-Ok.ensures)

pub returns-in-Err : goal.returns-in-Err
unfolding meaning_of
returns-in-Err c = inr refl
