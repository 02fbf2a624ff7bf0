-- What a write on some disks answers.
use Rattle.std.proofs.Common.{◌≡◌, ℕ, ◌<◌, true, false, List, Some, None, Ok, Err, refl, subst, find}
use Rattle.std.specs.Prelude.{not}
use Rattle.bay.specs.State.{BayState}
use Rattle.bay.specs.Moments.{Ends}
use Rattle.bay.proofs.Calls.{done_less}
use Rattle.asm_formats.specs.Among.{IsAmong}
use Rattle.asm_formats.specs.Status.{Status, status_spelling}
use Rattle.asm_formats.specs.Following.{sets}
use Rattle.status_register.specs.Rows.{HasBody, HasStatus, HaveBody, HaveStatus}
use Rattle.status_register.specs.Surveys.{AreRead, missing}
use Rattle.status_register.specs.Writes.{is_one_of, IsFailed, IsLostMember, IsDeadOf, IsWriteAnswer, ShowBut}
use Rattle.status_register.specs.declared.member.Member.{Member}
use Rattle.status_register.proofs.Losing.{twin_of, left_out_failed, none_in, found_in, shown_but}
use Rattle.status_register.proofs.Tallying.{RoseAt}
use Rattle.std.proofs.lemmas.Bool.{both_ways, not-true, cases_Bool}
use Rattle.std.proofs.Common.{⊎_elim, ap}

module _ (s t : BayState) (r : Status) (ms took shown : List Member) (body : List ℕ) (are : AreRead (RoseAt s t) ms took) (done : Ends (HaveStatus body took) s t) (spelt : body ≡ status_spelling r) (same : shown ≡ took) where
  they_show : Ends (HaveStatus (status_spelling r) took) s t
  they_show = subst (λ (b : List ℕ). Ends (HaveStatus b took) s t) spelt done

  pub write_lost : (disk : Member) → IsLostMember ms shown (sets r) disk → IsWriteAnswer ms r (Err (record { slot = disk.slot })) s t
  write_lost disk lost =
      let here = subst (λ (l : List Member). IsLostMember ms l (sets r) disk) same lost in
      (took, are, they_show, (disk, here, refl, left_out_failed (RoseAt s t) ms took are disk here.lost.attached here.lost.not_taken))

  pub write_taken : (failed : ℕ) (again : List Member) → again ≡ took → missing shown (Some r) ≡ None → IsFailed ms again failed → IsWriteAnswer ms r (Ok failed) s t
  write_taken failed again too enough is = (
    took,
    are,
    they_show,
    (subst (λ (l : List Member). missing l (Some r) ≡ None) same enough, subst (λ (l : List Member). IsFailed ms l failed) too is),
  )

-- ---- each of the members must take a body

module _ (s t : BayState) (ms took shown : List Member) (are : AreRead (RoseAt s t) ms took) (same : shown ≡ took) where
  pub all_done : (first second : ℕ) (body spelling : List ℕ) → body ≡ spelling → Ends (HaveBody first second body took) s t → find (λ (m : Member). not (is_one_of shown m)) ms ≡ None
      → Ends (HaveBody first second spelling ms) s t
  all_done first second body spelling spelt done none = done_less
      (λ x y have m h.
      let twin = twin_of took m (subst (λ (l : List Member). is_one_of l m ≡ true) same (taken m (none_in (λ (m : Member). not (is_one_of shown m)) ms none m h))) in
      subst (λ (k : ℕ). HasBody first second spelling k y) twin.slot (have twin.twin twin.among))
      (subst (λ (b : List ℕ). Ends (HaveBody first second b took) s t) spelt done)
    where
      taken : (m : Member) → not (is_one_of shown m) ≡ false → is_one_of shown m ≡ true
      taken m out = ⊎_elim (λ there. there) (λ absent. absurd (both_ways (not (is_one_of shown m)) out (ap not absent))) (cases_Bool (is_one_of shown m))

  pub one_dead : (m : Member) → find (λ (m : Member). not (is_one_of shown m)) ms ≡ Some m → IsDeadOf ms m.slot s t
  one_dead m is =
      let f = found_in (λ (m : Member). not (is_one_of shown m)) ms m is in
      ((m, f.among, refl), left_out_failed (RoseAt s t) ms took are m f.among (subst (λ (l : List Member). is_one_of l m ≡ false) same (not-true (is_one_of shown m) f.passes)))

-- each disk that isn't in the set shows the record
pub show_but : (s t : BayState) (r : Status) (ms took : List Member) (failed : ℕ) → ((m : Member) → IsAmong ms m → m.number < 64) → Ends (HaveStatus (status_spelling r) took) s t → IsFailed ms took failed → Ends (ShowBut ms failed r) s t
show_but s t r ms took failed small done is = done_less
    (λ x y have m h out. let twin = twin_of took m (shown_but ms took failed is m h (small m h) out) in subst (λ (k : ℕ). HasStatus (status_spelling r) k y) twin.slot (have twin.twin twin.among)) done
