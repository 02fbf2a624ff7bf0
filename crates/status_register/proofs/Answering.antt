-- What was judged by a tally is an answer to the survey.
use Rattle.std.proofs.Common.{◌≡◌, ◌∙◌, ℕ, List, Option, Some, None, Result, Ok, Err, sym, ap, subst}
use Rattle.std.specs.Prelude.{IfOk}
use Rattle.bay.specs.State.{BayState}
use Rattle.asm_formats.specs.Status.{Status}
use Rattle.asm_images.specs.Register.{greatest}
use Rattle.bay.specs.Told.{Told}
use Rattle.status_register.specs.Surveys.{AreRead, DisksSay, records_on, first_damage, missing}
use Rattle.status_register.specs.Answers.{Surveyed, IsAnswer, IsSurveyed, Judges}
use Rattle.status_register.specs.declared.member.Member.{Member}
use Rattle.status_register.specs.declared.tally.Tally.{Tally}
use Rattle.status_register.specs.declared.error.SurveyError.{SurveyError}
use Rattle.status_register.specs.declared.error.SurveyError.TheVariants.{NoMajority}
use Rattle.bay.specs.Moments.{Ends}
use Rattle.asm_formats.specs.Claim.{claim_spelling}
use Rattle.status_register.specs.Rows.{HaveClaim}
use Rattle.status_register.specs.Registered.{Registered, register_of, claim_of, IsClaimAnswer}
use Rattle.status_register.proofs.Tallying.{RoseAt}

pub answered : (s t : BayState) (id : ℕ) (ms : List Member) (tally : Tally) (answer : Result Surveyed SurveyError) → AreRead (RoseAt s t) ms tally.read
    → Told s t (DisksSay id tally.read tally.epoch tally.status tally.damage) → Judges id ms tally answer → IsSurveyed id ms answer s t
answered s t id ms tally answer are told judged = (
  tally.read,
  are,
  λ now holds image was.
      let so = told now holds image was in
      subst (λ (e : ℕ). IsAnswer id ms tally.read e (greatest (records_on id image tally.read)) (first_damage image tally.read) answer) (sym so.epoch_is)
      (subst (λ (r : Option Status). IsAnswer id ms tally.read tally.epoch r (first_damage image tally.read) answer) (sym so.status_is)
      (subst (λ (d : Option (ℕ × ℕ)). IsAnswer id ms tally.read tally.epoch tally.status d answer) (sym so.damage_is) judged)),
)

-- of those that were asked for
pub judged : (id : ℕ) (ms : List Member) (tally : Tally) (answer : Result Surveyed SurveyError) → Judges id ms tally answer → IfOk answer (λ survey. (survey.id ≡ id) × (survey.members ≡ ms))
judged id ms tally (Ok survey) judges = (judges.id_is, judges.members_are)
judged id ms tally (Err refusal) judges = tt

-- ---- the answer of a claim

module _ (s t : BayState) (survey : Surveyed) (ms took shown : List Member) (body : List ℕ) (lacking : Option (ℕ × ℕ)) (are : AreRead (RoseAt s t) ms took) (members : ms ≡ survey.members)
    (done : Ends (HaveClaim body took) s t) (claim : body ≡ claim_spelling (claim_of survey)) (lacks : lacking ≡ missing shown (Some survey.value)) (same : shown ≡ took) where
  members_did : AreRead (RoseAt s t) survey.members took
  members_did = subst (λ (l : List Member). AreRead (RoseAt s t) l took) members are

  they_show : Ends (HaveClaim (claim_spelling (claim_of survey)) took) s t
  they_show = subst (λ (b : List ℕ). Ends (HaveClaim b took) s t) claim done

  of_took : (o : Option (ℕ × ℕ)) → lacking ≡ o → missing took (Some survey.value) ≡ o
  of_took o is = sym (lacks ∙ ap (λ (l : List Member). missing l (Some survey.value)) same) ∙ is

  pub claim_refused : (seen need : ℕ) → lacking ≡ Some (seen, need) → IsClaimAnswer survey (Err (NoMajority seen need)) s t
  claim_refused seen need is = (took, members_did, they_show, of_took (Some (seen, need)) is)

  pub claim_taken : (register : Registered) → lacking ≡ None → register ≡ register_of survey → IsClaimAnswer survey (Ok register) s t
  claim_taken register is made = (took, members_did, they_show, (of_took None is, made))
