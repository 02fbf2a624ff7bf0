-- What statements on disks of a mounted group have done.
use Rattle.std.specs.Prelude.{◌≡◌, ◌≢◌, ℕ, ◌<◌, ◌==◌, Bool, true, false, not, List, map, find, reverse, unwrap_or, Option, Some, None, if◌then◌else◌}
use Rattle.std.specs.List.{list_any}
use Rattle.std.specs.Option.{option_map}
use Rattle.asm_group.specs.declared.Mode.TheVariants as mode
use Rattle.asm_formats.specs.Sets.{has_bit}
use Rattle.asm_formats.specs.Status.{Entry}
use Rattle.asm_placement.specs.Modes.{is_dropping}
use Rattle.asm_placement.specs.Partners.{with_partners}
use Rattle.group_reports.specs.catalog_tables.Tables.{Tables}
use Rattle.record_laws.specs.group_engine.Commits.{KeepsRecord}
use Rattle.record_laws.specs.group_engine.Mounts.{MountedGroup}
use Rattle.group_reports.specs.Disks.{expiring}
use Rattle.disk_modes.specs.declared.changing.Changes.{Changes}
use Rattle.disk_modes.specs.declared.changing.Changes.TheVariants as changes
use Rattle.disk_modes.specs.declared.dropping.DropDisk.{DropDisk}
use Rattle.disk_modes.specs.declared.records.Becomes.{Becomes}
use Rattle.disk_modes.specs.declared.records.Becomes.TheVariants as becomes
use Rattle.disk_modes.specs.declared.records.NewModes.{NewModes}
use Rattle.disk_modes.specs.declared.records.NewModes.TheVariants as modes
use Rattle.disk_modes.specs.Directories.{IsSubset}
use Rattle.disk_modes.specs.Records.{IsUnder, entries_after, entry_as, taken_off}

-- the tables where the rebalance of a power is active, or none is
abbrev pub with_rebalance_power : Tables → Option ℕ → Tables
with_rebalance_power t power = record t { operations = record t.operations { rebalance = power } }

-- The rebalance of a power is active, or none is, and the entries and the sets of the record stay, but for directory copies that failed.
pub record PutsRebalance (power : Option ℕ) (old new : MountedGroup) : Type 0 where
  pub tables : new.catalog.tables ≡ with_rebalance_power old.catalog.tables power
  pub kept : KeepsRecord old.register.value new.register.value

-- The record that holds is under the new modes, and the tables stay.
pub record PutsModes (to : NewModes) (old new : MountedGroup) : Type 0 where
  pub tables : new.catalog.tables ≡ old.catalog.tables
  pub under : IsUnder to old.register.value new.register.value

-- a directory copy that is left was there, and isn't one that is taken off
abbrev pub LeavesOthers : ℕ → ℕ → ℕ → Type 0
LeavesOthers left all off = (d : ℕ) → d < 64 → has_bit left d ≡ true → (has_bit all d ≡ true) × (has_bit off d ≡ false)

-- Both.
pub record PutsBoth (power : ℕ) (to : NewModes) (old new : MountedGroup) : Type 0 where
  pub tables : new.catalog.tables ≡ with_rebalance_power old.catalog.tables (Some power)
  pub entries : new.register.value.entries ≡ entries_after to old.register.value.entries
  pub copies : LeavesOthers new.register.value.directories old.register.value.directories (taken_off to)

abbrev pub MakesChanges : Changes → NewModes → MountedGroup → MountedGroup → Type 0
MakesChanges changes.Modes to old new = PutsModes to old new
MakesChanges (changes.Rebalance power) to old new = PutsRebalance (Some power) old new
MakesChanges (changes.RebalanceThenModes power) to old new = PutsBoth power to old new
MakesChanges (changes.ModesThenRebalance power) to old new = PutsBoth power to old new

-- ---- OFFLINE

-- These disks are Offline since a second, for the seconds that are said or those of the settings, and have no directory copy.
abbrev pub TakesOffline : ℕ → Option ℕ → ℕ → MountedGroup → MountedGroup → Type 0
TakesOffline disks repair now old new = PutsModes (modes.Offline disks now (unwrap_or repair old.catalog.tables.templates.settings.attributes.repair)) old new

-- ---- DROP

-- the last option that the statement gives a disk: with FORCE, or without it
abbrev pub drop_option_of : List DropDisk → ℕ → Option Bool
drop_option_of disks d = option_map (λ (x : DropDisk). x.force) (find (λ (x : DropDisk). d == x.disk) (reverse disks))

abbrev pub is_forced_by : Option Bool → Bool
is_forced_by None = false
is_forced_by (Some force) = force

abbrev pub is_dropped_by : Option Bool → Bool
is_dropped_by None = false
is_dropped_by (Some force) = not force

-- The disks that a statement names, without FORCE and with it.
pub record AreNamedToDrop (disks : List DropDisk) (dropping forced : ℕ) : Type 0 where
  pub without_force : (d : ℕ) → d < 64 → has_bit dropping d ≡ is_dropped_by (drop_option_of disks d)
  pub with_force : (d : ℕ) → d < 64 → has_bit forced d ≡ is_forced_by (drop_option_of disks d)

-- with any FORCE the modes come first
abbrev pub changes_for : ℕ → ℕ → Changes
changes_for forced power = if forced == 0 then changes.RebalanceThenModes power else changes.ModesThenRebalance power

-- what becomes of a disk by its option
abbrev pub drop_to : Option Bool → Becomes
drop_to None = becomes.Same
drop_to (Some true) = becomes.InMode mode.Forced
drop_to (Some false) = becomes.InMode mode.Dropping

abbrev pub entry_dropped : List DropDisk → Entry → Entry
entry_dropped disks e = entry_as (drop_to (drop_option_of disks e.number)) e

-- The disks that the statement names are Dropping, or with FORCE Forced and without a directory copy. The rebalance is active.
pub record DropsDisks (disks : List DropDisk) (power : ℕ) (old new : MountedGroup) : Type 0 where
  pub tables : new.catalog.tables ≡ with_rebalance_power old.catalog.tables (Some power)
  pub entries : new.register.value.entries ≡ with_partners (map (entry_dropped disks) old.register.value.entries)
  pub copies : IsSubset new.register.value.directories old.register.value.directories
  pub forced : (d : ℕ) → d < 64 → is_forced_by (drop_option_of disks d) ≡ true → has_bit new.register.value.directories d ≡ false

-- ---- UNDROP

abbrev pub has_dropping : List Entry → Bool
has_dropping es = list_any (λ (e : Entry). is_dropping e.mode) es

-- each disk that is being dropped is Online
abbrev pub without_drops : List Entry → List Entry
without_drops es = if has_dropping es then entries_after modes.Undropped es else es

-- the modes stay where no disk is being dropped
abbrev pub undropping : List Entry → Changes
undropping es = if has_dropping es then changes.RebalanceThenModes 1 else changes.Rebalance 1

-- No disk is being dropped, and a rebalance is active.
pub record Undrops (old new : MountedGroup) : Type 0 where
  pub tables : new.catalog.tables ≡ with_rebalance_power old.catalog.tables (Some 1)
  pub entries : new.register.value.entries ≡ without_drops old.register.value.entries
  pub copies : IsSubset new.register.value.directories old.register.value.directories

-- ---- expiry

abbrev pub entry_forced : ℕ → Entry → Entry
entry_forced d e = if e.number == d then record e { mode = mode.Forced } else e

-- The disk is Forced, and has no directory copy. A rebalance is active.
pub record DropsByForce (d : ℕ) (old new : MountedGroup) : Type 0 where
  pub tables : new.catalog.tables ≡ with_rebalance_power old.catalog.tables (Some 1)
  pub entries : new.register.value.entries ≡ with_partners (map (entry_forced d) old.register.value.entries)
  pub copies : (k : ℕ) → k < 64 → has_bit new.register.value.directories k ≡ true → (has_bit old.register.value.directories k ≡ true) × (k ≢ d)

-- the disk whose time was over at a second, and which may go, is dropped by force; where there is none the group stays
abbrev pub DropsExpiredDisk : ℕ → MountedGroup → Option ℕ → MountedGroup → Type 0
DropsExpiredDisk now old None new = (expiring old.catalog old.register.value now ≡ None) × (new ≡ old)
DropsExpiredDisk now old (Some d) new = (expiring old.catalog old.register.value now ≡ Some d) × DropsByForce d old new
