-- What a register keeps, and what a claim answers.
use Rattle.std.specs.Prelude.{◌≡◌, ℕ, ◌<◌, ◌+◌, ◌-◌, ◌^◌, ◌==◌, Bool, true, false, List, [], ◌∷◌, min, set, replicate, if◌then◌else◌, MatchResult, Result, Option, Some, None}
use Rattle.std.specs.Option.{option_map}
use Rattle.bay.specs.State.{BayState}
use Rattle.bay.specs.Counts.{Rose}
use Rattle.bay.specs.Moments.{Ends, NowOnly, LeavesOnly}
use Rattle.asm_formats.specs.Among.{IsAmong}
use Rattle.asm_formats.specs.Claim.{Claim, claim_spelling}
use Rattle.asm_formats.specs.Status.{Status, Entry, entry_of}
use Rattle.status_register.specs.Answers.{Surveyed, IsSurveyRefusal}
use Rattle.status_register.specs.History.{FitsHistory}
use Rattle.status_register.specs.Rows.{HaveClaim}
use Rattle.status_register.specs.Surveys.{AreRead, missing}
use Rattle.status_register.specs.declared.member.Member.{Member}
use Rattle.status_register.specs.declared.error.SurveyError.{SurveyError}

-- what a register keeps: the members by the numbers of their disks, the record, the epoch that was claimed and the last turn taken in it,
-- and whether no record of this epoch is complete yet
pub record Registered : Type 0 where
  pub id : ℕ
  pub members : List (Option Member)
  pub value : Status
  pub epoch : ℕ
  pub turn : ℕ
  pub is_fresh : Bool

abbrev pub is_same_birth : Option ℕ → ℕ → Bool
is_same_birth None birth = false
is_same_birth (Some b) birth = b == birth

-- a member takes its number's place, if it is the disk of the entry
abbrev pub with_member_in_place : List Entry → List (Option Member) → Member → List (Option Member)
with_member_in_place entries places m = if is_same_birth (option_map (λ (e : Entry). e.birth) (entry_of entries m.number)) m.birth then set places m.number (Some m) else places

abbrev pub all_placed : List Entry → List (Option Member) → List Member → List (Option Member)
all_placed entries places [] = places
all_placed entries places (m ∷ ms) = all_placed entries (with_member_in_place entries places m) ms

-- the number of each of the members is one of a disk
abbrev pub AreNumbered : List Member → Type 0
AreNumbered ms = (m : Member) → IsAmong ms m → m.number < 64

-- the epoch after a survey; at the end of the numbers it stays
abbrev pub next_epoch : ℕ → ℕ
next_epoch epoch = min (epoch + 1) (2 ^ 64 - 1)

abbrev pub claim_of : Surveyed → Claim
claim_of survey = record { id = survey.id; epoch = next_epoch survey.epoch }

-- the register of a claimed epoch
abbrev pub register_of : Surveyed → Registered
register_of survey = record {
  id = survey.id;
  members = all_placed survey.value.entries (replicate 64 None) survey.members;
  value = survey.value;
  epoch = next_epoch survey.epoch;
  turn = 0;
  is_fresh = true;
}

-- The answer is by those that took the claim, which their disks show from then on. A disk didn't take it only where its slot failed.
abbrev pub IsClaimAnswer : Surveyed → Result Registered SurveyError → BayState → BayState → Type 0
IsClaimAnswer survey answer s t =
    (took : List Member) × AreRead (λ slot. Rose (s.faults slot) (t.faults slot)) survey.members took
    × Ends (HaveClaim (claim_spelling (claim_of survey)) took) s t
    × MatchResult answer
    (λ register. (missing took (Some survey.value) ≡ None) × (register ≡ register_of survey))
    (λ refusal. IsSurveyRefusal refusal (missing took (Some survey.value)) (Some survey.value) None)

-- each of the members is in one of the first slots
abbrev pub AreBelow : ℕ → List Member → Type 0
AreBelow slots ms = (m : Member) → IsAmong ms m → m.slot < slots

-- Where each image that a stop may leave fits a history, so does each image of each moment of the call.
abbrev pub KeepsHistory : Surveyed → BayState → BayState → Type 0
KeepsHistory survey s t =
    (slots : ℕ) (completed : Option Status) (begun : List Status) → AreBelow slots survey.members → NowOnly s (FitsHistory slots survey.id completed begun)
    → LeavesOnly s t (FitsHistory slots survey.id completed begun)
