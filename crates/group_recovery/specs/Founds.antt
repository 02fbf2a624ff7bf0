-- What a search for a group finds, and why it finds none.
use Rattle.std.specs.Prelude.{◌≡◌, ◌==◌, ◌↔◌, ⊤, ℕ, Bool, not, true, false, List, ◌∷◌, filter, if◌then◌else◌, Option, Some, None, Result, Ok, Err}
use Rattle.std.specs.List.{list_any}
use Rattle.bay.specs.State.{BayState}
use Rattle.asm_group.specs.Names.{Bytes}
use Rattle.asm_formats.specs.Among.{IsAmong}
use Rattle.group_recovery.specs.Finding.{AreAllHeaded, AreThere}
use Rattle.group_recovery.specs.Verdicts.{Chooses, choice_of, ids_named}
use Rattle.group_recovery.specs.declared.choosing.Choice.{Choice}
use Rattle.group_recovery.specs.declared.choosing.ShortId.{ShortId}
use Rattle.group_recovery.specs.declared.choosing.Verdict.{Verdict}
use Rattle.group_recovery.specs.declared.choosing.Verdict.TheVariants.{Gone, Short, Whole}
use Rattle.group_recovery.specs.declared.choosing.WholeId.{WholeId}
use Rattle.group_recovery.specs.declared.error.MountError.{MountError}
use Rattle.group_recovery.specs.declared.error.MountError.TheVariants.{Damaged, NoGroup, NoMajority, NoMemory, TwoGroups}
use Rattle.group_recovery.specs.declared.finding.Headed.{Headed}
-- the slot is one of these
pub use Rattle.asm_placement.specs.DiskSets.{is_among as is_held}

-- the images with an open header, of so many that were looked at, and the id that is mounted
pub record FoundDisks : Type 0 where
  pub id : ℕ
  pub slots : ℕ
  pub headed : List Headed

-- the images that aren't in these slots
abbrev pub not_held : List ℕ → List Headed → List Headed
not_held held headed = filter (λ (h : Headed). not (is_held held h.slot)) headed

-- These are the images with an open header, and this is the choice by surveys of the ids of those that have the name. Of an id all members are surveyed,
-- whatever their names. The slots are those of the members that surveys left unread.
pub record Finds (name : Bytes) (n : ℕ) (headed : List Headed) (choice : Choice) (unread : List ℕ) (s t : BayState) : Type 0 where
  pub there : AreThere n headed t
  pub all : AreAllHeaded n headed s t
  pub judged : Chooses headed (ids_named name headed) choice unread s t

-- the refusal of a name of which no id is whole: the greatest that is short, where there is one
abbrev pub short_refusal : Option ShortId → MountError
short_refusal None = NoGroup
short_refusal (Some short) = NoMajority short.seen short.need

-- the id that is whole, where all bodies that were read decode
abbrev pub id_unless_damaged : WholeId → Result ℕ MountError
id_unless_damaged whole = elim whole.damage [
  | None ↦ Ok whole.id
  | Some place ↦ Err (Damaged place.0 place.1)
]

-- the id that is mounted, or why none is
abbrev pub id_of_choice : Choice → Result ℕ MountError
id_of_choice choice = if choice.are_two then Err TwoGroups else elim choice.whole [
  | None ↦ Err (short_refusal choice.short)
  | Some whole ↦ id_unless_damaged whole
]

-- An id is taken, and the images are those with an open header, without the members that a survey left unread: no disk that failed in the search is among
-- them, and each other one with an open header is.
pub record IsFound (name : Bytes) (n : ℕ) (found : FoundDisks) (s t : BayState) : Type 0 where
  pub headed : List Headed
  pub choice : Choice
  pub unread : List ℕ
  pub finds : Finds name n headed choice unread s t
  pub taken_is : id_of_choice choice ≡ Ok found.id
  pub left : found.headed ≡ not_held unread headed
  pub all : AreAllHeaded n found.headed s t

-- what was found leads to this refusal
pub record FindsNone (name : Bytes) (n : ℕ) (error : MountError) (s t : BayState) : Type 0 where
  pub headed : List Headed
  pub choice : Choice
  pub unread : List ℕ
  pub finds : Finds name n headed choice unread s t
  pub refusal : id_of_choice choice ≡ Err error

-- why no group is found
abbrev pub FindCause : Bytes → ℕ → MountError → BayState → BayState → Type 0
FindCause name n NoMemory s t = ⊤
FindCause name n error s t = FindsNone name n error s t

-- ---- laws

-- No id is taken exactly where each is gone.
abbrev pub NoneAreTaken : Type 0
NoneAreTaken = (verdicts : List (ℕ × Verdict)) → (((choice_of verdicts).whole ≡ None) × ((choice_of verdicts).short ≡ None)) ↔ ((v : ℕ × Verdict) → IsAmong verdicts v → v.1 ≡ Gone)

-- a majority of each set was read
abbrev pub is_whole : Verdict → Bool
is_whole Gone = false
is_whole (Whole damage) = true
is_whole (Short seen need) = false

-- a verdict, and another one behind it, are those of whole ids
pub data HasTwo : List (ℕ × Verdict) → Type 0 where
  first_of_two : (v : ℕ × Verdict) (w : ℕ × Verdict) (vs : List (ℕ × Verdict)) → is_whole v.1 ≡ true → IsAmong vs w → is_whole w.1 ≡ true → HasTwo (v ∷ vs)
  later : (v : ℕ × Verdict) (vs : List (ℕ × Verdict)) → HasTwo vs → HasTwo (v ∷ vs)

-- Two are taken exactly where two ids are whole. Each id is judged once.
abbrev pub TwoAreTaken : Type 0
TwoAreTaken = (verdicts : List (ℕ × Verdict)) → ((choice_of verdicts).are_two ≡ true) ↔ HasTwo verdicts
