-- What is attached stays so, over looks and other calls.
use Rattle.std.proofs.Common.{◌≡◌, ⊎_elim, ℕ, sym, subst, ◌∙◌, Some, ◌==◌}
use Rattle.std.specs.Option.{ForSome}
use Rattle.std.proofs.lemmas.Bool.{cases_Bool, eqb-true, eqb-false}
use Rattle.bay.specs.State.{AttachesOnly, BayState, KeepsAttached}
use Rattle.group_engine.specs.Frames.{StaysAttached}

pub stays_refl : (s : BayState) → StaysAttached s s
stays_refl s = record { stays = λ slot size is. is }

pub stays_trans : {s m t : BayState} → StaysAttached s m → StaysAttached m t → StaysAttached s t
stays_trans {s} {m} {t} one two = record { stays = λ slot size is. two.stays slot size (one.stays slot size is) }

pub stays_keeps : {s t : BayState} → KeepsAttached s t → StaysAttached s t
stays_keeps {s} {t} keeps = record { stays = λ slot size is. keeps.same slot ∙ is }

-- an attach leaves a slot that was attached as it was
pub stays_attach : {s t : BayState} (slot : ℕ) → ForSome (s.attached slot) (λ size. t.attached slot ≡ Some size) → AttachesOnly slot s t → StaysAttached s t
stays_attach {s} {t} slot has only = record {
  stays = λ k size is. ⊎_elim
      (λ here. let same : k ≡ slot = eqb-true k slot here in
      subst (λ (j : ℕ). t.attached j ≡ Some size) (sym same) (has size (subst (λ (j : ℕ). s.attached j ≡ Some size) same is)))
      (λ other. only.others k (eqb-false k slot other) ∙ is)
      (cases_Bool (k == slot));
}
