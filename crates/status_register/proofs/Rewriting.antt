-- What is said of a record as it is written, in the words of the one that was given.
use Rattle.std.proofs.Common.{◌≡◌, ℕ, List, Option, Some, None, Result, subst, ◌∙◌}
use Rattle.bay.specs.State.{BayState}
use Rattle.asm_formats.specs.Status.{Status, status_spelling}
use Rattle.asm_formats.specs.Following.{sets}
use Rattle.status_register.specs.Holders.{attached_to, with_next_number}
use Rattle.status_register.specs.Registered.{Registered}
use Rattle.status_register.specs.Rows.{CallsInOrder}
use Rattle.status_register.specs.Slots.{status_gate}
use Rattle.status_register.specs.Surveys.{missing, shortfall}
use Rattle.status_register.specs.Writes.{IsWriteAnswer}
use Rattle.status_register.specs.declared.member.Member.{Member}
use Rattle.status_register.specs.declared.error.Dead.{Dead}
use Rattle.status_register.proofs.Holding.{same_attached}

-- what is said of a record as it is written holds of the one that was given
pub record IsRewritten (s t : BayState) (old : Registered) (next status : Status) (places : List (Option Member)) (id : ℕ) : Type 0 where
  pub majority : missing (attached_to old.members next) (Some next) ≡ None → missing (attached_to places status) (Some status) ≡ None
  pub answer : (answer : Result ℕ Dead) → IsWriteAnswer (attached_to places status) status answer s t → IsWriteAnswer (attached_to old.members next) (with_next_number old next) answer s t
  pub calls : CallsInOrder (status_gate id) (attached_to places status) (status_spelling status) s t
      → CallsInOrder (status_gate old.id) (attached_to old.members next) (status_spelling (with_next_number old next)) s t

module _ (s t : BayState) (old : Registered) (next status : Status) (places : List (Option Member)) (id : ℕ) (there : places ≡ old.members) (is : status ≡ with_next_number old next) (id_is : id ≡ old.id) where
  same_list : attached_to places status ≡ attached_to old.members next
  same_list = (λ i. attached_to (there i) (is i)) ∙ same_attached old.members next old.epoch (with_next_number old next).turn 64

  same_majority : missing (attached_to old.members next) (Some next) ≡ None → missing (attached_to places status) (Some status) ≡ None
  same_majority enough = (λ i. shortfall (same_list i) (sets (is i))) ∙ enough

  same_answer : (answer : Result ℕ Dead) → IsWriteAnswer (attached_to places status) status answer s t → IsWriteAnswer (attached_to old.members next) (with_next_number old next) answer s t
  same_answer answer so = subst (λ (r : Status). IsWriteAnswer (attached_to old.members next) r answer s t) is (subst (λ (l : List Member). IsWriteAnswer l status answer s t) same_list so)

  same_calls : CallsInOrder (status_gate id) (attached_to places status) (status_spelling status) s t
      → CallsInOrder (status_gate old.id) (attached_to old.members next) (status_spelling (with_next_number old next)) s t
  same_calls calls = subst (λ (k : ℕ). CallsInOrder (status_gate k) (attached_to old.members next) (status_spelling (with_next_number old next)) s t) id_is
      (subst (λ (r : Status). CallsInOrder (status_gate id) (attached_to old.members next) (status_spelling r) s t) is
      (subst (λ (l : List Member). CallsInOrder (status_gate id) l (status_spelling status) s t) same_list calls))

  pub rewritten : IsRewritten s t old next status places id
  rewritten = record { majority = same_majority; answer = same_answer; calls = same_calls }
