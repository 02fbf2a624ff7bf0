-- What a mount ends of what a stop left undone, and why the group is lost at that.
use Rattle.std.specs.Prelude.{◌≡◌, ◌<◌, ⊤, ℕ, Bool, false, not, if◌then◌else◌, IfErr, List, OnOk, Option, Some, None, Result}
use Rattle.std.specs.Option.{option_map}
use Rattle.bay.specs.Counts.{Rose}
use Rattle.bay.specs.State.{BayState}
use Rattle.refusal_lines.specs.declared.refusal.DiskRef.TheVariants as disk
use Rattle.refusal_lines.specs.declared.refusal.Refusal.{Refusal}
use Rattle.refusal_lines.specs.declared.refusal.Refusal.TheVariants as refusal
use Rattle.asm_formats.specs.Among.{IsAmong}
use Rattle.asm_formats.specs.Items.{DiskInfo}
use Rattle.asm_formats.specs.Status.{Entry, entry_of}
use Rattle.group_recovery.specs.disk_directory.Disks.{Disk, info_at, without_disk}
use Rattle.group_recovery.specs.catalog_tables.Tables.{Tables}
use Rattle.status_register.specs.Registered.{is_same_birth}
use Rattle.group_engine.specs.Mounts.{IsMounted, MountedGroup, RoseOnDisk, slot_at}
use Rattle.group_engine.specs.Own.{KeepsGroup}
use Rattle.group_engine.specs.Pending.{EndsOn}
use Rattle.group_recovery.specs.declared.error.MountError.{MountError}
use Rattle.group_recovery.specs.declared.finding.Headed.{Headed}
use Rattle.group_recovery.specs.declared.quorum.Quorate.{Quorate}
use Rattle.group_recovery.specs.declared.error.MountError.TheVariants as error

-- the entries have none of this number and of the birth that the record says
abbrev pub lacks_entry : List Entry → ℕ → Option DiskInfo → Bool
lacks_entry entries d None = false
lacks_entry entries d (Some info) = not (is_same_birth (option_map (λ (e : Entry). e.birth) (entry_of entries d)) info.birth)

-- the disk of this number has a record, and no entry of its birth
abbrev pub is_left_over : List Entry → List Disk → ℕ → Bool
is_left_over entries disks d = lacks_entry entries d (info_at disks d)

-- the tables without the record of a disk, where that is left over
abbrev pub without_left_over : List Entry → Tables → ℕ → Tables
without_left_over entries t d = if is_left_over entries t.disks d then record t { disks = without_disk t.disks d } else t

-- Of the disks below a number no record is left over; each record that wasn't is as it was, and so is all else.
pub record HaveDropped (entries : List Entry) (t : Tables) (n : ℕ) (u : Tables) : Type 0 where
  pub rest : u ≡ record t { disks = u.disks }
  pub dropped : (d : ℕ) → d < n → is_left_over entries u.disks d ≡ false
  pub kept : (d : ℕ) → is_left_over entries t.disks d ≡ false → info_at u.disks d ≡ info_at t.disks d

-- The disk failed by which the group is dismounted. A change that makes no record wants memory alone besides.
abbrev pub IsClearCause : MountedGroup → BayState → BayState → Refusal → Type 0
IsClearCause m s t (refusal.Dismounted (disk.Number d)) = RoseOnDisk m d s t
IsClearCause m s t (refusal.Dismounted (disk.Spelt text)) = ⊥
IsClearCause m s t other = ⊤

-- Calls on a mounted group, which dismount it only where one of its disks fails. At Ok it takes calls.
pub record WorksOnGroup (old : MountedGroup) (answer : Result (Unit {0}) Refusal) (new : MountedGroup) (s t : BayState) : Type 0 where
  pub keeps : KeepsGroup old new s t
  pub mounted : OnOk answer (IsMounted new)
  pub cause : IfErr answer (IsClearCause old s t)

-- What a stop left undone is ended: no operation is pending.
pub record CleansUp (old : MountedGroup) (answer : Result (Unit {0}) Refusal) (new : MountedGroup) (s t : BayState) : Type 0 where
  pub ends : EndsOn old answer new s t
  pub ended : OnOk answer (new.catalog.tables.operations.pending ≡ None)
  pub cause : IfErr answer (IsClearCause old s t)

-- one of the disks of its id that were found for the group is in this slot
abbrev pub IsFoundSlot : Quorate → ℕ → Type 0
IsFoundSlot q slot = (h : Headed) × IsAmong q.headed.items h × (h.header.id ≡ q.id) × (h.slot ≡ slot)

-- Dead comes where its slot failed, and a disk of the group's id was found in it. Want of memory is free, and nothing else comes.
abbrev pub IsLostCause : Quorate → BayState → BayState → MountError → Type 0
IsLostCause q s t (error.Dead slot name) = Rose (s.faults slot) (t.faults slot) × IsFoundSlot q slot
IsLostCause q s t error.NoMemory = ⊤
IsLostCause q s t other = ⊥

-- the slot is that of the disk of this number
abbrev pub IsDead : MountedGroup → ℕ → MountError → Type 0
IsDead m d (error.Dead slot name) = slot_at m.disks d ≡ Some slot
IsDead m d error.NoMemory = ⊤
IsDead m d other = ⊥

-- a refusal as that of a mount: the slot is that of the disk by which the group is dismounted
abbrev pub IsRefusalOf : MountedGroup → Refusal → MountError → Type 0
IsRefusalOf m given (error.Dead slot name) = (d : ℕ) × (given ≡ refusal.Dismounted (disk.Number d)) × (slot_at m.disks d ≡ Some slot)
IsRefusalOf m given error.NoMemory = ⊤
IsRefusalOf m given other = ⊥
