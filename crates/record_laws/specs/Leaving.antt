-- A disk is taken out of a mounted group on which no home lies and which is in no set: the record that the group gets, and the three
-- steps by which the disk goes.
use Rattle.std.specs.Prelude.{◌≡◌, ℕ, ◌+◌, ◌<◌, ◌≤◌, ◌^◌, ◌==◌, Bool, true, false, ◌&&◌, not, List, [], ◌∷◌, filter, None, Some, Ok, Result}
use Rattle.bay.specs.Image.{Image}
use Rattle.bay.specs.Moments.{LeavesOnly, NowOnly}
use Rattle.bay.specs.State.{BayState}
use Rattle.asm_group.specs.Group.{Group}
use Rattle.group_engine.specs.asm_base.Records as records
use Rattle.refusal_lines.specs.declared.refusal.Refusal.{Refusal}
use Rattle.asm_formats.specs.Among.{IsAmong}
use Rattle.asm_formats.specs.Items.{Key}
use Rattle.asm_formats.specs.Sets.{elements}
use Rattle.asm_formats.specs.Status.{Entry, Status}
use Rattle.asm_placement.specs.Modes.{stays}
use Rattle.asm_images.specs.Bridge.{disks_in}
use Rattle.asm_images.specs.Kept.{IsHeld, Kept}
use Rattle.asm_images.specs.Stands.{Standing}
use Rattle.group_engine.specs.catalog.Plans.{IsPlan, with_disk_record}
use Rattle.group_engine.specs.catalog_tables.Rules.{KeepsRules}
use Rattle.group_engine.specs.Commits.{CommitsPlan}
use Rattle.group_engine.specs.Members.{without_attached_disk}
use Rattle.group_engine.specs.Mounts.{IsMounted, IsOwn, MountedGroup, Mounts, slot_at}
use Rattle.group_engine.specs.Recorded.{MayGet}
use Rattle.group_engine.specs.Statuses.{WritesStatus}
use Rattle.record_laws.specs.Attaching.{kept_of}
use Rattle.record_laws.specs.Beside.{IsNoHolder}
use Rattle.record_laws.specs.Getting.{ComesNext}

-- The record is the one that holds without a disk's entry, perhaps without its directory copy. A copy is left, and the disk is in no
-- table of partners. That no home lies on it, and no set has it, is asked of every record that may come next.
pub record LeavesOut (m : MountedGroup) (d : ℕ) (next : Status) : Type 0 where
  pub entries : next.entries ≡ filter (λ (e : Entry). not (e.number == d)) m.register.value.entries
  pub births : m.register.value.births ≤ next.births
  pub some : (k : ℕ) → IsAmong (elements m.register.value.directories) k → (j : ℕ) × IsAmong (elements next.directories) j
  pub apart : (e : Entry) → IsAmong m.register.value.entries e → e.number ≡ d → (not e.quorum && stays e.mode) ≡ false
  pub rules : KeepsRules m.catalog.shape m.catalog.tables

-- The group may get such a record.
abbrev pub LeftRecordMayBeGot : BayState → Type 0
LeftRecordMayBeGot s =
    (n : ℕ) (m : MountedGroup) (d : ℕ) (next : Status) (g : Group) (kept : Kept) → ComesNext n m next s g kept → LeavesOut m d next → MayGet n m next s g kept

-- ---- the three steps

-- The record is written, then the disk is attached no more, and then its disk record goes by the commit of a plan.
pub record LeavesInSteps (a b c : MountedGroup) (d : ℕ) (next : Status) (s t u : BayState) : Type 0 where
  pub written : WritesStatus a next (Ok tt) b s t
  -- turns don't run out
  pub turns : b.register.turn + 1 < 2 ^ 64
  pub put : List records.DirectoryRecord
  pub gone : List Key
  pub plan : IsPlan b.catalog put gone (record b.catalog.tables { disks = with_disk_record b.catalog.tables.disks d None })
  pub answer : Result (Unit {0}) Refusal
  pub commit : CommitsPlan (without_attached_disk b d) put gone answer c t u

-- The image is held for the groups with some of the disks that were attached, by the history that was kept or one that goes on from it.
pub record StandsWithSome (n id : ℕ) (groups : List Group) (kept : Kept) (image : Image) : Type 0 where
  pub by : Kept
  pub some : (slot : ℕ) → by.slots slot ≡ true → kept.slots slot ≡ true
  pub is : IsHeld n id groups by image
  -- with all that were attached and any others, Status and directories are there
  pub beside : (slots : ℕ → Bool) → ((slot : ℕ) → kept.slots slot ≡ true → slots slot ≡ true) → Standing id (disks_in n image) slots

-- Each image of each moment is held so for the group, and where it takes calls in the end it is mounted.
pub record GoesOnWithSome (n : ℕ) (old new : MountedGroup) (s t : BayState) (g : Group) (kept : Kept) : Type 0 where
  pub moments : LeavesOnly s t (StandsWithSome n old.register.id (g ∷ []) kept)
  pub mounts : IsMounted new → Mounts n new t g (kept_of new)

-- So it is while a disk is taken out of a mounted group.
abbrev pub LeavingGoesOn : BayState → BayState → BayState → Type 0
LeavingGoesOn s t u =
    (n : ℕ) (a b c : MountedGroup) (d : ℕ) (next : Status) (g : Group) (kept : Kept) → ComesNext n a next s g kept → LeavesOut a d next → LeavesInSteps a b c d next s t u
    → GoesOnWithSome n a c s u g kept

-- Afterwards the slot is no attached disk's, and no member in it is a disk of one of the record's sets.
pub record IsLetGo (m : MountedGroup) (slot : ℕ) (s : BayState) : Type 0 where
  pub other : IsOwn m slot → ⊥
  pub no_holder : NowOnly s (IsNoHolder m.register.id m.register.value slot)

-- So it is with the slot of the disk that was taken out.
abbrev pub LeavingLetsGo : BayState → BayState → BayState → Type 0
LeavingLetsGo s t u =
    (n : ℕ) (a b c : MountedGroup) (d slot : ℕ) (next : Status) (g : Group) (kept : Kept) → ComesNext n a next s g kept → LeavesOut a d next → LeavesInSteps a b c d next s t u
    → slot_at a.disks d ≡ Some slot → IsLetGo c slot u
