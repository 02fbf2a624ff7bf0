-- The record of a mount that was surveyed, as it is written.
use Rattle.std.specs.Prelude.{◌≡◌, ℕ, ◌*◌, ◌<◌, ◌≤◌, false, List, [], ◌∷◌, get_or, Some, None, Result, MatchResult}
use Rattle.bay.specs.Image.{Image}
use Rattle.bay.specs.Moments.{Ends, LeavesOnly, NowOnly, Runs}
use Rattle.asm_group.specs.Group.{Group}
use Rattle.asm_formats.specs.Among.{IsAmong}
use Rattle.bay.specs.State.{BayState}
use Rattle.bay.specs.Counts.{Rose}
use Rattle.asm_formats.specs.Bytes.{block_size}
use Rattle.asm_formats.specs.Content.{Content}
use Rattle.asm_formats.specs.Regions.{region_start}
use Rattle.asm_formats.specs.Status.{Status, status_spelling}
use Rattle.status_register.specs.Answers.{Surveyed}
use Rattle.status_register.specs.Holders.{attached_to, next_turn, with_next_number}
use Rattle.status_register.specs.Registered.{Registered, register_of}
use Rattle.status_register.specs.Rows.{HaveStatus, PutsRow}
use Rattle.status_register.specs.Slots.{status_gate}
use Rattle.status_register.specs.SurveyLaws.{IsMemberOn}
use Rattle.status_register.specs.Surveys.{AreRead, missing}
use Rattle.status_register.specs.Tallies.{IsSlotOf}
use Rattle.status_register.specs.declared.member.Member.{Member}
use Rattle.status_register.specs.Keeping.{FitsRegister}
use Rattle.asm_images.specs.Kept.{IsHeld}
use Rattle.group_recovery.specs.Mounting.{Allows, AllTaken, HasRecorded, IsMount, MayMount, IsMountRead, IsSource, MeansOne, MountReading, kept_of}
use Rattle.group_recovery.specs.declared.writing.RenewError.{RenewError}
use Rattle.group_recovery.specs.declared.writing.Renewed.{Renewed}
use Rattle.group_recovery.specs.declared.writing.RenewError.TheVariants.{NoMajority, Dead}

-- what a mount does that has surveyed this, with the record that is written anew and the content that is taken
abbrev pub mount_of : Surveyed → Status → Content → MountReading
mount_of survey next content = record {
  id = survey.id;
  members = survey.members;
  seen = survey.read;
  read = survey.value;
  next = with_next_number (register_of survey) next;
  content = content;
}

-- so it is of a mount by this survey and record, whichever content is taken
abbrev pub EachMount : Surveyed → Status → (MountReading → Type 0) → Type 0
EachMount survey next P = (content : Content) → P (mount_of survey next content)

-- the calls are those of a mount, whichever copy the content was read on
abbrev pub RunsAsMount : MountReading → BayState → BayState → Type 0
RunsAsMount mount s t = (source : Member) → Runs (IsSlotOf mount.members) (MayMount mount source) s t

-- the claim and status slots of these disks
abbrev pub FrontOf : List Member → ℕ → ℕ → Type 0
FrontOf ms s k = IsSlotOf ms s × (2 * block_size ≤ k) × (k < region_start * block_size)

-- the record is complete in the end
abbrev pub HasRenewed : MountReading → BayState → BayState → Type 0
HasRenewed mount s t = Ends (HasRecorded mount) s t

-- the register of the record anew
abbrev pub renewed_register : Surveyed → Status → Registered
renewed_register survey next = record (register_of survey) { value = with_next_number (register_of survey) next; turn = 1; is_fresh = false }

-- the calls put the record on the attached disks of its sets
abbrev pub RunsAsRecord : Registered → Status → BayState → BayState → Type 0
RunsAsRecord register next s t =
    let ms = attached_to register.members next in
    Runs (IsSlotOf ms) (PutsRow (status_gate register.id) ms (status_spelling (with_next_number register next))) s t

-- so few members took the claim, or a member's slot failed while the record was written
abbrev pub RenewCause : Surveyed → Status → RenewError → BayState → BayState → Type 0
RenewCause survey next (NoMajority seen need) s t =
    (took : List Member) × AreRead (λ slot. Rose (s.faults slot) (t.faults slot)) survey.members took × (missing took (Some survey.value) ≡ Some (seen, need))
RenewCause survey next (Dead slot) s t = IsSlotOf survey.members slot × Rose (s.faults slot) (t.faults slot)

-- Some of the attached disks of the record's sets took it, a majority of each, and the register holds it; or a slot of one of them failed.
abbrev pub WritesAnew : Registered → Status → Result Renewed RenewError → BayState → BayState → Type 0
WritesAnew register next answer s t = MatchResult answer
    (λ renewed. (took : List Member) × ((m : Member) → IsAmong took m → IsAmong (attached_to register.members next) m)
    × Ends (HaveStatus (status_spelling (with_next_number register next)) took) s t × (missing took (Some (with_next_number register next)) ≡ None)
    × (renewed.register ≡ record register { value = with_next_number register next; turn = next_turn register.turn; is_fresh = false }))
    (λ error. (slot : ℕ) × (error ≡ Dead slot) × IsSlotOf (attached_to register.members next) slot × Rose (s.faults slot) (t.faults slot))

-- ---- what is kept over it

-- What a mount has read is so on each image that a stop may leave now, and each stands for groups of the list.
pub record IsReadNow (n : ℕ) (mount : MountReading) (source : Member) (groups : List Group) (state : BayState) : Type 0 where
  pub read : NowOnly state (IsMountRead n mount)
  pub source_ : NowOnly state (IsSource mount source)
  pub allows : NowOnly state (Allows mount.id groups)

-- Each image of each moment stands for groups of the list.
abbrev pub KeepsGroups : MountReading → BayState → BayState → Type 0
KeepsGroups mount s t = (n : ℕ) (source : Member) (groups : List Group) → IsMount mount → IsReadNow n mount source groups s → LeavesOnly s t (Allows mount.id groups)

-- Where no copy lags behind, in the end the one group is held for which the content stood on each image.
abbrev pub HoldsOneGroup : MountReading → BayState → BayState → Type 0
HoldsOneGroup mount s t =
    (n : ℕ) (source : Member) (groups : List Group) (g : Group) → IsMount mount → IsReadNow n mount source groups s → NowOnly s (AllTaken mount) → IsAmong groups g → NowOnly s (MeansOne n mount g)
    → NowOnly t (IsHeld n mount.id (g ∷ []) (kept_of mount))

-- The register keeps the history that begins with the record.
abbrev pub KeepsRegister : MountReading → Registered → BayState → BayState → Type 0
KeepsRegister mount register s t =
    (n slots : ℕ) (source : Member) (groups : List Group) → IsMount mount → IsReadNow n mount source groups s → n ≤ slots → FitsRegister slots register (Some mount.next) [] t

-- each disk that is attached to the register is a member
abbrev pub AreMembersOn : ℕ → ℕ → Registered → Image → Type 0
AreMembersOn slots id register image = (i : ℕ) (m : Member) → get_or register.members i None ≡ Some m → IsMemberOn slots id image m

-- So does a register of other attached disks, also of those that weren't surveyed, where each is a member on each image.
abbrev pub KeepsAnyRegister : MountReading → Registered → BayState → BayState → Type 0
KeepsAnyRegister mount register s t =
    (n slots : ℕ) (source : Member) (groups : List Group) → IsMount mount → IsReadNow n mount source groups s → n ≤ slots → NowOnly t (AreMembersOn slots mount.id register)
    → FitsRegister slots register (Some mount.next) [] t
