-- What a survey of each id of a name tells, and which id is taken.
use Rattle.std.specs.Prelude.{◌≡◌, ℕ, ◌+◌, ◌*◌, length, ◌==◌, false, nat_lt, Bool, List, [], ◌∷◌, ◌++◌, if◌then◌else◌, Option, Some, None, Result, Ok, Err, IfOk}
use Rattle.std.specs.List.{list_any}
use Rattle.std.specs.Option.{is_some}
use Rattle.bay.specs.State.{BayState}
use Rattle.bay.specs.Counts.{Rose}
use Rattle.asm_group.specs.Names.{Bytes, is_same_name}
use Rattle.asm_formats.specs.Among.{IsAmong}
use Rattle.status_register.specs.Answers.{Surveyed, IsSurveyed}
use Rattle.status_register.specs.Places.{HasSlots}
use Rattle.status_register.specs.Surveys.{AreRead}
use Rattle.status_register.specs.declared.error.SurveyError.{SurveyError}
use Rattle.status_register.specs.declared.error.SurveyError.TheVariants.{NoMajority, Damaged}
use Rattle.status_register.specs.declared.member.Member.{Member}
use Rattle.group_recovery.specs.declared.choosing.Choice.{Choice}
use Rattle.group_recovery.specs.declared.choosing.ShortId.{ShortId}
use Rattle.group_recovery.specs.declared.choosing.Verdict.{Verdict}
use Rattle.group_recovery.specs.declared.choosing.Verdict.TheVariants.{Gone, Whole, Short}
use Rattle.group_recovery.specs.declared.finding.Headed.{Headed}
-- the slot is that of one of these members
pub use Rattle.status_register.specs.SurveyLaws.{slots_of as has_slot}

-- ---- members

-- the disk as the register sees it
abbrev pub member_of : Headed → Member
member_of h = record { slot = h.slot; number = h.header.number; birth = h.header.birth; sector = h.header.shape.sector }

-- those of an id
abbrev pub members_with : ℕ → List Headed → List Member
members_with id [] = []
members_with id (h ∷ hs) = if h.header.id == id then member_of h ∷ members_with id hs else members_with id hs

-- the ids, each once
abbrev pub with_id : ℕ → List ℕ → List ℕ
with_id id ids = if list_any (λ n. n == id) ids then ids else ids ++ id ∷ []

-- the ids of those that have a name
abbrev pub ids_named : Bytes → List Headed → List ℕ
ids_named name [] = []
ids_named name (h ∷ hs) = if is_same_name h.header.group name then with_id h.header.id (ids_named name hs) else ids_named name hs

-- each disk is attached, and has the claim and status slots of its header's sector
abbrev pub AreAttached : List Headed → BayState → Type 0
AreAttached hs state = (h : Headed) → IsAmong hs h → HasSlots state h.slot h.header.shape.sector

-- the slot of one of these
abbrev pub IsSlotIn : List Headed → ℕ → Type 0
IsSlotIn hs slot = (h : Headed) × IsAmong hs h × (slot ≡ h.slot)

-- ---- verdicts

-- An id is gone where its greatest record is marked gone, also where a body doesn't decode. Else it is whole where a majority of each of its sets was read,
-- with the first body that doesn't decode, and short where fewer were read, with how many there are and how many are needed.
abbrev pub verdict_of : Result Surveyed SurveyError → Verdict
verdict_of (Ok survey) = if survey.value.gone then Gone else Whole None
verdict_of (Err (NoMajority seen need)) = Short seen need
verdict_of (Err (Damaged slot block gone)) = if gone then Gone else Whole (Some (slot, block))

-- the slots of the members that aren't among those that were read
abbrev pub unread_of : List Member → List Member → List ℕ
unread_of read [] = []
unread_of read (m ∷ ms) = if has_slot read m.slot then unread_of read ms else m.slot ∷ unread_of read ms

-- those of a survey that isn't refused
abbrev pub unread_by : List Member → Result Surveyed SurveyError → List ℕ
unread_by ms (Ok survey) = unread_of survey.read ms
unread_by ms (Err refusal) = []

-- the verdict on an id is by a survey of its members, which has left these unread
pub record IsJudged (id : ℕ) (ms : List Member) (verdict : Verdict) (unread : List ℕ) (s t : BayState) : Type 0 where
  pub answer : Result Surveyed SurveyError
  pub surveyed : IsSurveyed id ms answer s t
  -- a member is left unread only where its slot failed
  pub read : IfOk answer (λ survey. AreRead (λ slot. Rose (s.faults slot) (t.faults slot)) ms survey.read)
  pub verdict_is : verdict ≡ verdict_of answer
  pub unread_are : unread ≡ unread_by ms answer

-- so is that on each of these ids
abbrev pub AreJudged : List Headed → List ℕ → List (ℕ × Verdict) → List ℕ → BayState → BayState → Type 0
AreJudged hs [] verdicts unread s t = (verdicts ≡ []) × (unread ≡ [])
AreJudged hs (id ∷ ids) verdicts unread s t =
    (verdict : Verdict) × (own : List ℕ) × (others : List (ℕ × Verdict)) × (later : List ℕ) × (verdicts ≡ (id, verdict) ∷ others) × (unread ≡ own ++ later)
    × IsJudged id (members_with id hs) verdict own s t × AreJudged hs ids others later s t

-- a list has grown by these
abbrev pub GrowsBy : List ℕ → List ℕ → (List ℕ → Type 0) → Type 0
GrowsBy old new P = (more : List ℕ) × (new ≡ old ++ more) × P more

-- the most calls that surveys of these ids take
abbrev pub calls_to_survey : List Headed → List ℕ → ℕ
calls_to_survey hs [] = 0
calls_to_survey hs (id ∷ ids) = 8 * length (members_with id hs) + calls_to_survey hs ids

-- ---- the choice

-- the greater of two ids that are short
abbrev pub greater_short_id : ShortId → Option ShortId → ShortId
greater_short_id short None = short
greater_short_id short (Some other) = if nat_lt short.id other.id then other else short

-- one id more
abbrev pub with_verdict : ℕ → Verdict → Choice → Choice
with_verdict id Gone choice = choice
with_verdict id (Whole damage) choice = record choice { whole = Some (record { id = id; damage = damage }); are_two = is_some choice.whole }
with_verdict id (Short seen need) choice = record choice { short = Some (greater_short_id (record { id = id; seen = seen; need = need }) choice.short) }

-- the first id that is whole, whether there is another, and the greatest of those without a majority
abbrev pub choice_of : List (ℕ × Verdict) → Choice
choice_of [] = record { whole = None; are_two = false; short = None }
choice_of (v ∷ vs) = with_verdict v.0 v.1 (choice_of vs)

-- the choice is by the verdicts on these ids
abbrev pub Chooses : List Headed → List ℕ → Choice → List ℕ → BayState → BayState → Type 0
Chooses hs ids choice unread s t = (verdicts : List (ℕ × Verdict)) × AreJudged hs ids verdicts unread s t × (choice ≡ choice_of verdicts)
