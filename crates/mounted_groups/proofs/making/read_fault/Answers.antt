use Rattle.std.proofs.Common.{inl, inr, ℕ, List, refl, ap}
use Rattle.asm_group.specs.Refusal.{ReadFault}
use Rattle.refusal_lines.specs.Refusals.{meaning_of}
use Rattle.mounted_groups.proofs.making.read_fault.Goals as goal

pub returns-in-Ok : goal.returns-in-Ok
unfolding meaning_of
returns-in-Ok c = inl (ap (λ (t : List ℕ). ReadFault t) c.in-Ok.ensures)

pub returns-in-Err : goal.returns-in-Err
unfolding meaning_of
returns-in-Err c = inr refl
