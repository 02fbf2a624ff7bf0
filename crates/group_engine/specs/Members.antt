-- Disks of a mounted group that come or go.
use Rattle.std.specs.Prelude.{◌≡◌, ◌⊎◌, ⊤, ℕ, ◌<◌, get_or, set, Some, None, IfErr, OnOk, Result}
use Rattle.bay.specs.State.{BayState, KeepsAttached}
use Rattle.bay.specs.Counts.{Rose}
use Rattle.bay.specs.Moments.{Runs}
use Rattle.asm_formats.specs.Status.{Entry, entry_of}
use Rattle.refusal_lines.specs.declared.refusal.DiskRef.{DiskRef}
use Rattle.refusal_lines.specs.declared.refusal.DiskRef.TheVariants as disk
use Rattle.refusal_lines.specs.declared.refusal.Refusal.{Refusal}
use Rattle.refusal_lines.specs.declared.refusal.Refusal.TheVariants as cause
use Rattle.status_register.specs.Elsewhere.{with_attached, without_attached}
use Rattle.status_register.specs.Places.{HasSlots}
use Rattle.status_register.specs.declared.member.Member.{Member}
use Rattle.group_engine.specs.Mounts.{IsMounted, IsOwn, IsReady, IsWhole, MountedGroup, slot_at}
use Rattle.group_engine.specs.Own.{OnOwnDisks}
use Rattle.group_engine.specs.declared.access.Access.TheVariants as access

-- What a call keeps that may let disks of a group go.
pub record LetsGo (old new : MountedGroup) (s t : BayState) : Type 0 where
  pub name : new.name ≡ old.name
  pub id : new.register.id ≡ old.register.id
  pub shape : new.catalog.shape ≡ old.catalog.shape
  pub own : (slot : ℕ) → IsOwn new slot → IsOwn old slot
  pub attached : KeepsAttached s t
  pub runs : Runs (IsOwn old) (OnOwnDisks old) s t
  pub whole : IsMounted new → IsWhole new
  pub ready : IsMounted new → IsReady new t

-- ---- one disk more, and one less

-- the group with an attached disk more, whose image has so many bytes
abbrev pub with_attached_disk : MountedGroup → Member → ℕ → MountedGroup
with_attached_disk m x size = record m { register = with_attached m.register x; disks = set m.disks x.number (Some (record { slot = x.slot; size = size })) }

-- the group with no attached disk of a number
abbrev pub without_attached_disk : MountedGroup → ℕ → MountedGroup
without_attached_disk m d = record m { register = without_attached m.register d; disks = set m.disks d None }

-- There is a place for the disk: none is attached at its number or on its slot, and where its number has an entry, its birth is the entry's.
pub record HasPlace (m : MountedGroup) (x : Member) : Type 0 where
  pub small : x.number < 64
  pub absent : get_or m.register.members x.number None ≡ None
  pub apart : IsOwn m x.slot → ⊥
  pub birth : (e : Entry) → entry_of m.register.value.entries x.number ≡ Some e → x.birth ≡ e.birth

-- The image in the disk's slot is attached, with so many bytes, and has room for claims and records.
pub record HasImage (x : Member) (size : ℕ) (state : BayState) : Type 0 where
  pub slots : HasSlots state x.slot x.sector
  pub attached : state.attached x.slot ≡ Some size

-- ---- causes

-- the disk of this number failed, on a slot that was attached to the group
pub record HasFailed (old new : MountedGroup) (d : ℕ) (s t : BayState) : Type 0 where
  pub slot : ℕ
  pub at : slot_at new.disks d ≡ Some slot
  pub own : IsOwn old slot
  pub rose : Rose (s.faults slot) (t.faults slot)

-- the group was dismounted by the disk before the calls, or in them
abbrev pub IsLetDown : MountedGroup → MountedGroup → BayState → BayState → DiskRef → Type 0
IsLetDown old new s t (disk.Number d) = (old.access ≡ access.Dismounted d) ⊎ ((new.access ≡ access.Dismounted d) × HasFailed old new d s t)
IsLetDown old new s t (disk.Spelt text) = ⊥

-- When calls are refused over which disks may go. Want of memory is free.
abbrev pub LettingCause : MountedGroup → MountedGroup → BayState → BayState → Refusal → Type 0
LettingCause old new s t (cause.Dismounted by) = IsLetDown old new s t by
LettingCause old new s t cause.NoMemory = ⊤
LettingCause old new s t _ = ⊥

-- ---- what the calls do

-- The taking out of an emptied disk.
pub record LeavesOne (old : MountedGroup) (d : ℕ) (answer : Result (Unit {0}) Refusal) (new : MountedGroup) (s t : BayState) : Type 0 where
  pub lets : LetsGo old new s t
  pub mounted : OnOk answer (IsMounted new)
  pub gone : OnOk answer (slot_at new.disks d ≡ None)
  pub cause : IfErr answer (LettingCause old new s t)
