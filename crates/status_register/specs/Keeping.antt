-- The history that the disks fit over the calls of a register.
use Rattle.std.specs.Prelude.{◌≡◌, ◌⊎◌, ℕ, ◌+◌, ◌*◌, ◌^◌, ◌<◌, ◌≤◌, false, List, [], ◌∷◌, ◌++◌, get_or, MatchResult, IfOk, Result, Option, Some, None}
use Rattle.bay.specs.Image.{Image}
use Rattle.bay.specs.State.{BayState}
use Rattle.bay.specs.Moments.{NowOnly, LeavesOnly}
use Rattle.asm_formats.specs.Among.{IsAmong}
use Rattle.asm_formats.specs.Claim.{Claim}
use Rattle.asm_formats.specs.Metadata.{Metadata}
use Rattle.asm_formats.specs.Status.{Status}
use Rattle.asm_formats.specs.Following.{rank}
use Rattle.asm_images.specs.Members.{claims_of_group, of_group}
use Rattle.asm_images.specs.Register.{current_records}
use Rattle.status_register.specs.Answers.{Surveyed}
use Rattle.status_register.specs.History.{FitsHistory}
use Rattle.status_register.specs.Holders.{with_next_number, HoldSlots, SlotsDiffer}
use Rattle.status_register.specs.Registered.{Registered, next_epoch}
use Rattle.status_register.specs.SurveyLaws.{IsMemberOn}
use Rattle.status_register.specs.Surveys.{disk_in, missing}
use Rattle.status_register.specs.Writes.{first_holders}
use Rattle.status_register.specs.declared.member.Member.{Member}
use Rattle.status_register.specs.declared.error.Dead.{Dead}
use Rattle.status_register.specs.declared.error.SurveyError.{SurveyError}

-- an open slot of the disk has a claim or a record of the group of at least this epoch
abbrev pub ShowsEpoch : ℕ → ℕ → Metadata → Type 0
ShowsEpoch id epoch disk =
    ((c : Claim) × IsAmong (claims_of_group id disk.claims) c × (epoch ≤ c.epoch)) ⊎ ((r : Status) × IsAmong (of_group id disk.statuses) r × (epoch ≤ r.epoch))

-- members that are enough for the record show the epoch
pub record EpochStands (slots id epoch : ℕ) (r : Status) (image : Image) : Type 0 where
  pub on : List Member
  pub members : (m : Member) → IsAmong on m → IsMemberOn slots id image m
  pub shown : (m : Member) → IsAmong on m → ShowsEpoch id epoch (disk_in image m.slot)
  pub enough : missing on (Some r) ≡ None

-- What the register keeps of the history: its record counts, and after a write it is the one that was last completed. No number above its own was taken.
pub record Continues (register : Registered) (completed : Option Status) (begun : List Status) : Type 0 where
  pub group : register.value.id ≡ register.id
  pub counts : IsAmong (current_records completed begun) register.value
  pub holds : register.is_fresh ≡ false → completed ≡ Some register.value
  pub below : (s : Status) → IsAmong (current_records completed begun) s → rank s ≤ register.epoch * 2 ^ 64 + register.turn

-- The image fits the history: the attached disks are members, and the epoch of the register stands.
pub record HasHistory (slots : ℕ) (register : Registered) (completed : Option Status) (begun : List Status) (image : Image) : Type 0 where
  pub fits : FitsHistory slots register.id completed begun image
  pub members : (i : ℕ) (m : Member) → get_or register.members i None ≡ Some m → IsMemberOn slots register.id image m
  pub claimed : EpochStands slots register.id register.epoch register.value image

-- each image that a stop now may leave fits the history, as the register keeps it
pub record FitsRegister (slots : ℕ) (register : Registered) (completed : Option Status) (begun : List Status) (state : BayState) : Type 0 where
  pub continues : Continues register completed begun
  pub now : NowOnly state (HasHistory slots register completed begun)

-- Over a write each image of each moment fits the history in which the record is begun. Once a set was given, the record is completed.
pub record KeepsOn (old : Registered) (next : Status) (answer : Result ℕ Dead) (new : Registered) (s t : BayState) (slots : ℕ) (completed : Option Status) (begun : List Status) : Type 0 where
  pub moments : LeavesOnly s t (HasHistory slots old completed (begun ++ with_next_number old next ∷ []))
  pub after : MatchResult answer (λ failed. FitsRegister slots new (Some new.value) [] t) (λ dead. FitsRegister slots new completed (begun ++ with_next_number old next ∷ []) t)

abbrev pub KeepsWritten : Registered → Status → Result ℕ Dead → Registered → BayState → BayState → Type 0
KeepsWritten old next answer new s t =
    (slots : ℕ) (completed : Option Status) (begun : List Status) → old.turn + 1 < 2 ^ 64 → FitsRegister slots old completed begun s → KeepsOn old next answer new s t slots completed begun

-- ---- how a history begins

-- the image fits the history, and these disks are members
pub record FitsWith (slots id : ℕ) (ms : List Member) (completed : Option Status) (begun : List Status) (image : Image) : Type 0 where
  pub fits : FitsHistory slots id completed begun image
  pub members : (m : Member) → IsAmong ms m → IsMemberOn slots id image m

-- before the first record: no record of the group is there, and its epoch stands
pub record HasNoRecord (slots : ℕ) (r : Status) (ms : List Member) (image : Image) : Type 0 where
  pub fits : FitsHistory slots r.id None [] image
  pub members : (m : Member) → IsAmong ms m → IsMemberOn slots r.id image m
  pub claimed : EpochStands slots r.id r.epoch r image

-- Claims of its group keep that there is no record, and the members.
abbrev pub KeepsNoRecord : ℕ → List Member → BayState → BayState → Type 0
KeepsNoRecord id ms s t = (slots : ℕ) → NowOnly s (FitsWith slots id ms None []) → LeavesOnly s t (FitsWith slots id ms None [])

-- Where there was no record, the first one may be written, of this group and epoch, if the members are enough for it.
abbrev pub MayBeFirst : ℕ → ℕ → List Member → BayState → BayState → Type 0
MayBeFirst id epoch ms s t =
    (slots : ℕ) (r : Status) → r.id ≡ id → r.epoch ≡ epoch → missing ms (Some r) ≡ None → NowOnly s (FitsWith slots id ms None []) → NowOnly t (HasNoRecord slots r ms)

-- Over the first record each image of each moment fits the history in which it is begun. In the end it is completed.
pub record KeepsFirst (r : Status) (answer : Result Registered Dead) (s t : BayState) (slots : ℕ) : Type 0 where
  pub moments : LeavesOnly s t (FitsHistory slots r.id None (r ∷ []))
  pub after : IfOk answer (λ register. FitsRegister slots register (Some r) [] t)

abbrev pub KeepsFromFirst : Status → List Member → Result Registered Dead → BayState → BayState → Type 0
KeepsFromFirst r ms answer s t =
    (slots : ℕ) → missing (first_holders r ms) (Some r) ≡ None → NowOnly s (HasNoRecord slots r ms) → KeepsFirst r answer s t slots

-- Where each image fits the history in which the register's record is complete, the register keeps it.
abbrev pub KeepsStanding : Registered → BayState → Type 0
KeepsStanding register s =
    (slots : ℕ) → NowOnly s (HasHistory slots register (Some register.value) []) → FitsRegister slots register (Some register.value) [] s

-- before a claim: the surveyed record counts, and the next epoch is above all that count
pub record IsSurveyOf (slots : ℕ) (survey : Surveyed) (completed : Option Status) (begun : List Status) : Type 0 where
  pub group : survey.value.id ≡ survey.id
  pub counts : IsAmong (current_records completed begun) survey.value
  pub below : (s : Status) → IsAmong (current_records completed begun) s → (s.epoch < next_epoch survey.epoch) × (s.turn < 2 ^ 64)

-- Where the disks fit a history at a claim, the register keeps it.
abbrev pub KeepsFromClaim : Surveyed → Result Registered SurveyError → BayState → BayState → Type 0
KeepsFromClaim survey answer s t =
    (slots : ℕ) (completed : Option Status) (begun : List Status) → IsSurveyOf slots survey completed begun → NowOnly s (FitsWith slots survey.id survey.members completed begun)
    → IfOk answer (λ register. FitsRegister slots register completed begun t)

-- the register may be written: its members have slots of their own
pub record IsRegisterReady (register : Registered) (state : BayState) : Type 0 where
  pub slots : HoldSlots state register.members
  pub apart : SlotsDiffer register.members
