use Rattle.std.proofs.Common.{inl, inr, ℕ, List, refl, ap, ◌∙◌}
use Rattle.asm_group.specs.Refusal.{TooSmall}
use Rattle.refusal_lines.specs.Refusals.{meaning_of}
use Rattle.new_groups.proofs.refusals.too_small.Goals as goal

pub returns-in-Ok : goal.returns-in-Ok
unfolding meaning_of
returns-in-Ok c = inl (ap (λ (t : List ℕ). TooSmall t c.args.need) (c.in-Ok.ensures ∙ c.as_bytes.ensures.bytes))

pub returns-in-Err : goal.returns-in-Err
unfolding meaning_of
returns-in-Err c = inr refl
