-- The attributes of a creation, one after another.
use Rattle.std.proofs.Common.{◌≡◌, inl, inr, ⊎_elim, List, [], ◌∷◌, Some, None, refl, sym, ap, ◌∙◌}
use Rattle.std.specs.Prelude.{Result, Err}
use Rattle.refusal_lines.specs.Refusals.{meaning_of}
use Rattle.refusal_lines.specs.declared.refusal.Refusal.{Refusal}
use Rattle.asm_group.specs.Refusal as r
use Rattle.asm_world.specs.Settings.{Creation, created_with, with_creation_attribute}
use Rattle.asm_world.specs.Statement.{Attribute}
use Rattle.mounted_groups.specs.Probes.{SaysRefusal}
use Rattle.new_groups.specs.Refusing.{IsNotTaken, IsRefusedAs}

pub refused_as : {A : Type 0} (answer : Result A r.Refusal) (wanted : r.Refusal) (refusal : Refusal) → answer ≡ Err wanted → SaysRefusal wanted refusal → IsRefusedAs answer (meaning_of (λ any. []) refusal)
refused_as answer wanted refusal is says = ⊎_elim (λ (same : meaning_of (λ any. []) refusal ≡ wanted). inl (is ∙ ap (λ (x : r.Refusal). Err x) (sym same))) (λ short. inr short) says

pub with_next : (c next : Creation) (a : Attribute) (rest : List Attribute) → with_creation_attribute c a ≡ Some next → created_with c (a ∷ rest) ≡ created_with next rest
with_next c next a rest is = rw (is, created_with) refl

pub with_none : (c : Creation) (a : Attribute) (rest : List Attribute) → with_creation_attribute c a ≡ None → created_with c (a ∷ rest) ≡ Err (r.BadAttribute a.name)
with_none c a rest is = rw (is, created_with) refl

pub not_taken : (c : Creation) (a : Attribute) (wanted : r.Refusal) (refusal : Refusal) → with_creation_attribute c a ≡ None → wanted ≡ r.BadAttribute a.name → SaysRefusal wanted refusal → IsNotTaken c a (meaning_of (λ any. []) refusal)
not_taken c a wanted refusal none is says = ⊎_elim (λ (same : meaning_of (λ any. []) refusal ≡ wanted). inl (none, same ∙ is)) (λ short. inr short) says

pub refused_next : (c : Creation) (a : Attribute) (rest all : List Attribute) (refusal : r.Refusal) → all ≡ a ∷ rest → IsNotTaken c a refusal → IsRefusedAs (created_with c all) refusal
refused_next c a rest all refusal is why = ⊎_elim
    (λ none. inl (ap (created_with c) is ∙ with_none c a rest none.0 ∙ ap (λ (x : r.Refusal). Err x) (sym none.1)))
    (λ short. inr short) why
