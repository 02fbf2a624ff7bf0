-- What a survey answers.
use Rattle.std.specs.Prelude.{◌≡◌, ℕ, List, max, MatchResult, Result, Option, Some, None}
use Rattle.std.specs.Option.{option_map}
use Rattle.bay.specs.State.{BayState}
use Rattle.bay.specs.Counts.{Rose}
use Rattle.asm_formats.specs.Status.{Status}
use Rattle.asm_images.specs.Register.{greatest}
use Rattle.bay.specs.Told.{Told}
use Rattle.status_register.specs.Surveys.{AreRead, claims_on, records_on, greatest_epoch, first_damage, missing}
use Rattle.status_register.specs.declared.member.Member.{Member}
use Rattle.status_register.specs.declared.tally.Tally.{Tally}
use Rattle.status_register.specs.declared.error.SurveyError.{SurveyError}
use Rattle.status_register.specs.declared.error.SurveyError.TheVariants.{NoMajority, Damaged}

-- what was surveyed: those that were read of the members of a group, the greatest record, and the greatest epoch of a claim or of this record
pub record Surveyed : Type 0 where
  pub id : ℕ
  pub members : List Member
  pub read : List Member
  pub value : Status
  pub epoch : ℕ

-- a refusal, by what a set falls short of, by the record that is to hold and by the first damage: a majority is asked for first
abbrev pub IsSurveyRefusal : SurveyError → Option (ℕ × ℕ) → Option Status → Option (ℕ × ℕ) → Type 0
IsSurveyRefusal (NoMajority seen need) lacking status damage = lacking ≡ Some (seen, need)
IsSurveyRefusal (Damaged slot block gone) lacking status damage = (lacking ≡ None) × (damage ≡ Some (slot, block)) × (option_map (λ (r : Status). r.gone) status ≡ Some gone)

-- The members that were read make the answer: the greatest record they hold, where they are a majority of each of its sets and all that must decode does.
pub record IsValue (id : ℕ) (ms read : List Member) (epoch : ℕ) (status : Option Status) (damage : Option (ℕ × ℕ)) (survey : Surveyed) : Type 0 where
  pub id_is : survey.id ≡ id
  pub members_are : survey.members ≡ ms
  pub read_are : survey.read ≡ read
  pub value_is : status ≡ Some survey.value
  pub enough : missing read status ≡ None
  pub whole : damage ≡ None
  pub epoch_is : survey.epoch ≡ max epoch survey.value.epoch

abbrev pub IsAnswer : ℕ → List Member → List Member → ℕ → Option Status → Option (ℕ × ℕ) → Result Surveyed SurveyError → Type 0
IsAnswer id ms read epoch status damage answer = MatchResult answer
    (λ survey. IsValue id ms read epoch status damage survey)
    (λ refusal. IsSurveyRefusal refusal (missing read status) status damage)

-- the answer by a tally
abbrev pub Judges : ℕ → List Member → Tally → Result Surveyed SurveyError → Type 0
Judges id ms tally answer = IsAnswer id ms tally.read tally.epoch tally.status tally.damage answer

-- The answer is by what the disks of those that were read say. A disk isn't read only where its slot failed.
abbrev pub IsSurveyed : ℕ → List Member → Result Surveyed SurveyError → BayState → BayState → Type 0
IsSurveyed id ms answer s t =
    (read : List Member) × AreRead (λ slot. Rose (s.faults slot) (t.faults slot)) ms read
    × Told s t (λ image. IsAnswer id ms read (greatest_epoch (claims_on id image read)) (greatest (records_on id image read)) (first_damage image read) answer)
