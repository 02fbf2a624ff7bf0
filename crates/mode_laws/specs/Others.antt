-- What happens to disks by expiry, mounts and failed writes, and that modes change by that alone.
use Rattle.std.specs.Prelude.{◌≡◌, ℕ, ◌<◌, true, false, List, Option, Some, IsTrue}
use Rattle.bay.specs.State.{BayState}
use Rattle.asm_formats.specs.Among.{IsAmong}
use Rattle.asm_formats.specs.Sets.{has_bit}
use Rattle.asm_formats.specs.Status.{Entry, Status, entry_of, is_status}
use Rattle.asm_placement.specs.Modes.{serves}
use Rattle.group_recovery.specs.catalog_tables.MarkedExtents.{IsFirstMarked}
use Rattle.disk_modes.specs.Effects.{DropsExpiredDisk}
use Rattle.group_pieces.specs.group_engine.Mounts.{MountedGroup}
use Rattle.group_recovery.specs.Founds.{FoundDisks}
use Rattle.group_recovery.specs.Missing.{is_missing}
use Rattle.group_recovery.specs.NextRecord.{IsNextRecord, MakesRecord}
use Rattle.group_recovery.specs.Quorum.{IsQuorate}
use Rattle.group_recovery.specs.Recovering.{ArePartsOf}
use Rattle.group_recovery.specs.declared.quorum.MountOption.{MountOption}
use Rattle.group_recovery.specs.declared.quorum.MountOption.TheVariants.{NoForce}
use Rattle.group_recovery.specs.declared.quorum.Quorate.{Quorate}
use Rattle.group_recovery.specs.declared.recovering.Parts.{Parts}
use Rattle.group_pieces.specs.Failing.{AreOffline, status_failed}
use Rattle.disk_modes.specs.group_reports.Disks.{is_repair_time_up}
use Rattle.mode_laws.specs.Events.{TakesEffect, ModeChange, ModeEvent, by_expiry, by_fault, by_mark, by_missing}
use Rattle.mode_laws.specs.Statements.{group_entries}

-- ---- expiry

-- The disk is the one that expired at a second: it was Offline, and its time was up.
pub record ExpiryTakes (r : Status) (now : ℕ) (expired : Option ℕ) (d : ℕ) (v : ModeEvent) : Type 0 where
  pub is : expired ≡ Some d
  pub entry : Entry
  pub there : entry_of r.entries d ≡ Some entry
  pub due : is_repair_time_up now entry ≡ true
  pub event : v ≡ by_expiry

-- Modes change by expiry alone, and where no disk expires none does.
abbrev pub ExpiryChanges : Type 0
ExpiryChanges =
    (now : ℕ) (expired : Option ℕ) (old new : MountedGroup) → IsTrue (is_status old.register.value) → DropsExpiredDisk now old expired new
    → ModeChange (ExpiryTakes old.register.value now expired) (group_entries old) (group_entries new)

-- ---- a mount

-- the repair time of the group that is mounted
abbrev pub repair_at : Quorate → ℕ
repair_at q = q.catalog.tables.templates.settings.attributes.repair

-- A mount doesn't find the disk, or finds it with a stale copy of an extent.
pub data MountFinds (q : Quorate) (now d : ℕ) : ModeEvent → Type 0 where
  is_away : (e : Entry) → entry_of q.survey.value.entries d ≡ Some e → is_missing q.id q.headed.items e ≡ true → MountFinds q now d (by_missing now (repair_at q))
  a_mark : (e : Entry) → entry_of q.survey.value.entries d ≡ Some e → is_missing q.id q.headed.items e ≡ false
      → (x : ℕ × ℕ) → IsFirstMarked q.catalog.tables d (0, 0) x → MountFinds q now d by_mark

-- In the record of a mount modes have changed by what the mount has found alone.
abbrev pub MountChanges : Type 0
MountChanges = (q : Quorate) (now : ℕ) (next : Status) → MakesRecord q → IsNextRecord q now next → ModeChange (MountFinds q now) q.survey.value.entries next.entries

-- So they have in the group that is taken over, of a group that was quorate; and without FORCE the mount finds each disk.
pub record MountedChanges (option : MountOption) (q : Quorate) (now : ℕ) (parts : Parts) : Type 0 where
  pub modes : ModeChange (MountFinds q now) q.survey.value.entries parts.register.value.entries
  pub complete : option ≡ NoForce → (d since repair : ℕ) → MountFinds q now d (by_missing since repair) → ⊥

abbrev pub TakingOverChanges : BayState → BayState → Type 0
TakingOverChanges s t =
    (option : MountOption) (found : FoundDisks) (q : Quorate) (now : ℕ) (parts : Parts) → IsQuorate option found q s → ArePartsOf q now parts t
    → MountedChanges option q now parts

-- ---- failed writes

-- the disks of the set failed, in a write at a second, and are dropped after so many
abbrev pub WriteFailed : ℕ → ℕ → ℕ → ℕ → ModeEvent → Type 0
WriteFailed failed since repair d v = (has_bit failed d ≡ true) × (v ≡ by_fault since repair)

-- the disks that failed serve
abbrev pub FailedServe : ℕ → List Entry → Type 0
FailedServe disks es = (e : Entry) → IsAmong es e → has_bit disks e.number ≡ true → serves e.mode ≡ true

-- In the record with failed disks Offline modes have changed by the failed writes alone.
abbrev pub FailedChanges : Type 0
FailedChanges =
    (failed since repair : ℕ) (r : Status) → FailedServe failed r.entries
    → ModeChange (WriteFailed failed since repair) r.entries (status_failed r failed 64 since repair).entries

-- By a record in which the disks that failed are Offline, each of them that served is as a failed write leaves it.
abbrev pub FailedAreTaken : Type 0
FailedAreTaken =
    (failed since : ℕ) (r s : Status) (d : ℕ) (e f : Entry) → AreOffline failed since s → d < 64 → has_bit failed d ≡ true
    → entry_of r.entries d ≡ Some e → serves e.mode ≡ true → entry_of s.entries d ≡ Some f → TakesEffect (by_fault since f.repair) e f
