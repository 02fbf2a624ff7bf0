-- Why disks don't come to a group.
use Rattle.std.specs.Prelude.{◌≡◌, ⊤, ℕ, ◌<◌, Bool, true, false, List, length, Some, None}
use Rattle.bay.specs.Counts.{Rose}
use Rattle.bay.specs.State.{BayState}
use Rattle.refusal_lines.specs.declared.refusal.DiskRef.{DiskRef}
use Rattle.refusal_lines.specs.declared.refusal.DiskRef.TheVariants as disk
use Rattle.refusal_lines.specs.declared.refusal.Refusal.{Refusal}
use Rattle.refusal_lines.specs.declared.refusal.Refusal.TheVariants as refusal
use Rattle.asm_formats.specs.Sets.{has_bit}
use Rattle.asm_formats.specs.Status.{Entry, entry_of, is_offline_entry}
use Rattle.disk_images.specs.Looks.{AreLooked}
use Rattle.disk_images.specs.declared.looking.Looked.{Looked}
use Rattle.file_extents.specs.group_engine.Mounts.{MountedGroup, slot_at}
use Rattle.file_extents.specs.group_engine.declared.access.Access.TheVariants as access
use Rattle.disk_joining.specs.Returning.{is_present}

-- The group was dismounted by the disk before the call, or the disk is attached to it and failed in the call.
pub data IsLostBy (old new : MountedGroup) (s t : BayState) (d : ℕ) : Type 0 where
  was_lost : old.access ≡ access.Dismounted d → IsLostBy old new s t d
  has_failed : (slot : ℕ) → slot_at new.disks d ≡ Some slot → Rose (s.faults slot) (t.faults slot) → IsLostBy old new s t d

abbrev pub LostDiskCause : MountedGroup → MountedGroup → BayState → BayState → DiskRef → Type 0
LostDiskCause old new s t (disk.Number d) = IsLostBy old new s t d
LostDiskCause old new s t (disk.Spelt text) = ⊥

-- Why a record or a commit is refused. Want of memory is free.
abbrev pub StepCause : MountedGroup → MountedGroup → BayState → BayState → Refusal → Type 0
StepCause old new s t (refusal.Dismounted by) = LostDiskCause old new s t by
StepCause old new s t refusal.NoMemory = ⊤
StepCause old new s t other = ⊥

-- ---- why disks don't come back

-- the disk has an entry that passes the test
abbrev pub PassesTest : List Entry → (Entry → Bool) → ℕ → Type 0
PassesTest entries test d = (e : Entry) × (entry_of entries d ≡ Some e) × (test e ≡ true)

-- each disk of a set below a number passes
pub record PassBelow (entries : List Entry) (disks : ℕ) (test : Entry → Bool) (n : ℕ) : Type 0 where
  pub each : (d : ℕ) → d < n → has_bit disks d ≡ true → PassesTest entries test d

-- The least disk of a set that doesn't pass a test: it has an entry, which fails, and all lesser disks of the set pass.
pub record IsLeastFailing (entries : List Entry) (disks : ℕ) (test : Entry → Bool) (d : ℕ) : Type 0 where
  pub among : has_bit disks d ≡ true
  pub entry : Entry
  pub there : entry_of entries d ≡ Some entry
  pub fails : test entry ≡ false
  pub lesser : PassBelow entries disks test d

-- a disk of the set has no entry
abbrev pub HasUnknown : List Entry → ℕ → Type 0
HasUnknown entries disks = (d : ℕ) × (has_bit disks d ≡ true) × (entry_of entries d ≡ None)

-- By the modes of the disks: the least that isn't Offline is in that mode, or one has no entry.
abbrev pub JoinStateCause : MountedGroup → ℕ → Refusal → Type 0
JoinStateCause m disks (refusal.DiskState (disk.Number d) is) = (least : IsLeastFailing m.register.value.entries disks is_offline_entry d) × (least.entry.mode ≡ is)
JoinStateCause m disks refusal.NoName = HasUnknown m.register.value.entries disks
JoinStateCause m disks other = ⊥

-- By what was looked at: it is the least disk that isn't there, or one has no entry.
abbrev pub ImageCause : List Looked → List ℕ → MountedGroup → ℕ → Refusal → Type 0
ImageCause looked held m disks (refusal.NoDisk (disk.Number d)) = IsLeastFailing m.register.value.entries disks (is_present looked held m) d
ImageCause looked held m disks refusal.NoName = HasUnknown m.register.value.entries disks
ImageCause looked held m disks other = ⊥

-- The refusal has its cause in looks at this many slots, which show what their images have then: a disk isn't there by them, or has no entry.
pub record IsMissed (slots : ℕ) (held : List ℕ) (m : MountedGroup) (disks : ℕ) (s t : BayState) (given : Refusal) : Type 0 where
  pub looked : List Looked
  pub are_looked : AreLooked looked s t
  pub count : length looked ≡ slots
  pub cause : ImageCause looked held m disks given

-- Why disks of a set don't come back: by the modes of the disks, since one isn't there, or since a record is refused.
pub data OnlineCause (slots : ℕ) (held : List ℕ) (old : MountedGroup) (disks : ℕ) (new : MountedGroup) (s t : BayState) (given : Refusal) : Type 0 where
  by_state : JoinStateCause old disks given → OnlineCause slots held old disks new s t given
  by_missed_disks : IsMissed slots held old disks s t given → OnlineCause slots held old disks new s t given
  by_record : StepCause old new s t given → OnlineCause slots held old disks new s t given
