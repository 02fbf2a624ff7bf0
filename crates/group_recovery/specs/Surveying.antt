-- What a survey of the found disks gives.
use Rattle.std.specs.Prelude.{◌≡◌, ⊤, ℕ, ◌+◌, ◌^◌, ◌<◌, true, false, List, if◌then◌else◌, Some, None, Result, Ok, Err}
use Rattle.std.specs.Option.{option_map}
use Rattle.bay.specs.Image.{Image}
use Rattle.bay.specs.State.{BayState}
use Rattle.bay.specs.Counts.{Rose}
use Rattle.bay.specs.Moments.{NowOnly}
use Rattle.asm_formats.specs.Content.{Content}
use Rattle.asm_formats.specs.Status.{Status}
use Rattle.asm_formats.specs.Among.{IsAmong}
use Rattle.asm_images.specs.Register.{greatest}
use Rattle.status_register.specs.Answers.{Surveyed}
use Rattle.status_register.specs.Registered.{AreNumbered}
use Rattle.status_register.specs.Rows.{HaveOwnSlots}
use Rattle.status_register.specs.SurveyLaws.{IsMemberOn}
use Rattle.status_register.specs.Surveys.{AreRead, records_on, first_damage, missing}
use Rattle.status_register.specs.Tallies.{HaveSlots}
use Rattle.bay.specs.Told.{Told}
use Rattle.status_register.specs.declared.member.Member.{Member}
use Rattle.status_register.specs.declared.error.SurveyError.{SurveyError}
use Rattle.status_register.specs.declared.error.SurveyError.TheVariants as survey_error
use Rattle.group_recovery.specs.declared.finding.Headed.{Headed}
use Rattle.group_recovery.specs.Mounting.{IsMountRead}
use Rattle.group_recovery.specs.Syncing.{AreMembersDurable, IsSurveyOn, IsWellRead}
use Rattle.group_recovery.specs.Verdicts.{members_with}
use Rattle.group_recovery.specs.Writing.{mount_of}
use Rattle.group_recovery.specs.declared.error.MountError.{MountError}
use Rattle.group_recovery.specs.declared.error.MountError.TheVariants as error

-- The surveyed members are synced disks of the id, on each image that a stop may leave now, and what was read is what each of these says.
pub record IsSurveyedNow (n id : ℕ) (survey : Surveyed) (state : BayState) : Type 0 where
  pub id_is : survey.id ≡ id
  pub slots : HaveSlots state survey.members
  pub apart : HaveOwnSlots survey.members
  pub numbers : AreNumbered survey.members
  pub durable : AreMembersDurable survey.members state
  pub not_gone : survey.value.gone ≡ false
  pub well : IsWellRead survey
  pub members : NowOnly state (λ image. (m : Member) → IsAmong survey.members m → IsMemberOn n survey.id image m)
  pub now : NowOnly state (IsSurveyOn survey)

-- the survey is of those of the members that could be synced
pub record AreSurveyed (id : ℕ) (ms : List Member) (survey : Surveyed) (s t : BayState) : Type 0 where
  pub id_is : survey.id ≡ id
  pub are : AreRead (λ slot. Rose (s.faults slot) (t.faults slot)) ms survey.members
  pub durable : AreMembersDurable survey.members t
  pub not_gone : survey.value.gone ≡ false
  pub well : IsWellRead survey
  pub now : NowOnly t (IsSurveyOn survey)

-- a refusal of a survey as one of a mount
abbrev pub mount_error_of : SurveyError → MountError
mount_error_of (survey_error.NoMajority seen need) = error.NoMajority seen need
mount_error_of (survey_error.Damaged slot block gone) = if gone then error.NoGroup else error.Damaged slot block

-- an answer of a survey as one of a mount: a group that is gone is none
abbrev pub answer_of : Result Surveyed SurveyError → Result Surveyed MountError
answer_of (Ok survey) = if survey.value.gone then Err error.NoGroup else Ok survey
answer_of (Err e) = Err (mount_error_of e)

-- a majority of each set of the greatest record on these members was read, and it is marked gone
pub record IsGoneOn (id : ℕ) (read : List Member) (image : Image) : Type 0 where
  pub enough : missing read (greatest (records_on id image read)) ≡ None
  pub gone : option_map (λ (r : Status). r.gone) (greatest (records_on id image read)) ≡ Some true

-- Why there is no survey: the group is gone, too few of a set were read, or a body of these doesn't decode.
abbrev pub MembersCause : ℕ → List Member → MountError → BayState → BayState → Type 0
MembersCause id ms error.NoGroup s t =
    (read : List Member) × AreRead (λ slot. Rose (s.faults slot) (t.faults slot)) ms read × Told s t (IsGoneOn id read)
MembersCause id ms (error.NoMajority seen need) s t =
    (read : List Member) × AreRead (λ slot. Rose (s.faults slot) (t.faults slot)) ms read × Told s t (λ image. missing read (greatest (records_on id image read)) ≡ Some (seen, need))
MembersCause id ms (error.Damaged slot block) s t =
    (read : List Member) × AreRead (λ slot. Rose (s.faults slot) (t.faults slot)) ms read
    × Told s t (λ image. (missing read (greatest (records_on id image read)) ≡ None) × (first_damage image read ≡ Some (slot, block)))
MembersCause id ms error.NoMemory s t = ⊤
MembersCause id ms other s t = ⊥

abbrev pub SurveyCause : ℕ → List Headed → MountError → BayState → BayState → Type 0
SurveyCause id named e s t = MembersCause id (members_with id named) e s t

-- So a mount has read what it needs on each image on which the members are disks of the id and say what was read, where numbers don't run out.
abbrev pub SurveyedIsRead : Type 0
SurveyedIsRead =
    (n : ℕ) (survey : Surveyed) (next : Status) (content : Content) (image : Image) → ((m : Member) → IsAmong survey.members m → IsMemberOn n survey.id image m) → IsSurveyOn survey image
    → survey.epoch + 1 < 2 ^ 64 → IsMountRead n (mount_of survey next content) image
