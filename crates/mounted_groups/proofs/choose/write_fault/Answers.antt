use Rattle.std.proofs.Common.{inl, inr, ℕ, List, refl, ap, ◌∙◌}
use Rattle.asm_group.specs.Refusal.{WriteFault}
use Rattle.refusal_lines.specs.Refusals.{meaning_of}
use Rattle.mounted_groups.proofs.choose.write_fault.Goals as goal

pub returns-in-Ok : goal.returns-in-Ok
unfolding meaning_of
returns-in-Ok c = inl (ap (λ (t : List ℕ). WriteFault t) (c.in-Ok.ensures ∙ c.as_bytes.ensures.bytes))

pub returns-in-Err : goal.returns-in-Err
unfolding meaning_of
returns-in-Err c = inr refl
