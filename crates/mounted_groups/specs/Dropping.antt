-- How a group goes.
use Rattle.std.specs.Prelude.{◌≡◌, ◌⊎◌, ◌<◌, ℕ, Bool, false, Some, None, IsTrue}
use Rattle.bay.specs.Counts.{Rose}
use Rattle.bay.specs.Image.{Image, ChangesOnly}
use Rattle.bay.specs.Moments.{NowOnly, Runs}
use Rattle.bay.specs.State.{BayState, KeepsAttached}
use Rattle.refusal_lines.specs.declared.refusal.Refusal.{Refusal}
use Rattle.refusal_lines.specs.declared.refusal.Refusal.TheVariants as refusal
use Rattle.asm_images.specs.Kept.{header_in}
use Rattle.group_recovery.specs.disk_images.Headers.{HasHeaderSlot}
use Rattle.group_engine.specs.file_directory.Files.{is_file_number}
use Rattle.group_engine.specs.Commits.{DismountCause}
use Rattle.group_engine.specs.Mounts.{IsOwn, MountedGroup, slot_at}
use Rattle.group_engine.specs.Own.{OnOwnDisks}
use Rattle.group_engine.specs.declared.access.Access.TheVariants as access

-- ---- whether it may go

-- the group has a file
abbrev pub HasFile : MountedGroup → Type 0
HasFile m = (f : ℕ) × IsTrue (is_file_number m.catalog.tables.files f)

abbrev pub HasNoFile : MountedGroup → Type 0
HasNoFile m = (f : ℕ) → is_file_number m.catalog.tables.files f ≡ false

-- Why a group doesn't go: it has files, and its contents aren't to go with it; it is dismounted; or it was closed before.
abbrev pub DropGroupCause : MountedGroup → Bool → MountedGroup → BayState → BayState → Refusal → Type 0
DropGroupCause old contents new s t refusal.GroupNotEmpty = (contents ≡ false) × HasFile old
DropGroupCause old contents new s t (refusal.Dismounted by) = DismountCause old new s t by
DropGroupCause old contents new s t refusal.NoMemory = old.access ≡ access.Closed
DropGroupCause old contents new s t other = ⊥

-- ---- its headers

-- Each attached disk is one of the group's own and has a header's slot, and no two are in one slot.
pub record HaveHeaders (m : MountedGroup) (state : BayState) : Type 0 where
  pub own : (d slot : ℕ) → slot_at m.disks d ≡ Some slot → IsOwn m slot
  pub slots : (d slot : ℕ) → slot_at m.disks d ≡ Some slot → HasHeaderSlot state slot m.catalog.shape.sector
  pub apart : (d e slot : ℕ) → slot_at m.disks d ≡ Some slot → slot_at m.disks e ≡ Some slot → d ≡ e

-- no disk changes but that of this number
abbrev pub ChangesOnlyOnDisk : MountedGroup → ℕ → Image → Image → Type 0
ChangesOnlyOnDisk m d = ChangesOnly (λ slot k. slot_at m.disks d ≡ Some slot)

-- the disk has no header any more, or its slot failed
abbrev pub IsOut : ℕ → BayState → BayState → Type 0
IsOut slot s t = Rose (s.faults slot) (t.faults slot) ⊎ NowOnly t (λ image. header_in image slot ≡ None)

-- the attached disks with numbers below n have none
abbrev pub AreOut : MountedGroup → ℕ → BayState → BayState → Type 0
AreOut m n s t = (d slot : ℕ) → d < n → slot_at m.disks d ≡ Some slot → IsOut slot s t

-- The header of the disk of a number is closed, where it is attached: no other disk changes.
pub record ClosesHeaderAt (m : MountedGroup) (number : ℕ) (s t : BayState) : Type 0 where
  pub attached : KeepsAttached s t
  pub runs : Runs (λ slot. slot_at m.disks number ≡ Some slot) (ChangesOnlyOnDisk m number) s t
  pub out : (slot : ℕ) → slot_at m.disks number ≡ Some slot → IsOut slot s t

-- The headers of the attached disks with numbers below n are closed: the group's own disks alone change.
pub record ClosesHeaders (m : MountedGroup) (n : ℕ) (s t : BayState) : Type 0 where
  pub attached : KeepsAttached s t
  pub runs : Runs (IsOwn m) (OnOwnDisks m) s t
  pub out : AreOut m n s t
