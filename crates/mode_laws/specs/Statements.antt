-- What happens to disks by statements on them, and that modes change by that alone.
use Rattle.std.specs.Prelude.{◌≡◌, ℕ, Bool, true, false, List, Option, Some, None, if◌then◌else◌, unwrap_or}
use Rattle.std.specs.Option.{option_map}
use Rattle.asm_formats.specs.Among.{IsAmong}
use Rattle.asm_formats.specs.Sets.{has_bit}
use Rattle.asm_formats.specs.Status.{Entry}
use Rattle.group_pieces.specs.group_engine.Mounts.{MountedGroup}
use Rattle.disk_modes.specs.declared.checking.Statement.{Statement}
use Rattle.disk_modes.specs.declared.checking.Statement.TheVariants as statement
use Rattle.disk_modes.specs.declared.dropping.DropDisk.{DropDisk}
use Rattle.disk_modes.specs.Effects.{DropsDisks, PutsRebalance, TakesOffline, Undrops, drop_option_of}
use Rattle.disk_modes.specs.Modes.{drop_as, takes}
use Rattle.disk_modes.specs.Sizes.{ResizesDisks, units_asked}
use Rattle.mode_laws.specs.Events.{ModeChange, ModeEvent, by_drop, by_force, by_offline, by_resize, by_undrop}

-- the entries of a group
abbrev pub group_entries : MountedGroup → List Entry
group_entries m = m.register.value.entries

-- each disk that is named has a mode which the statement takes
abbrev pub StatementTakes : (ℕ → Option Statement) → List Entry → Type 0
StatementTakes named es = (e : Entry) (s : Statement) → IsAmong es e → named e.number ≡ Some s → takes s e.mode ≡ true

-- nothing happens
abbrev pub NoEvent : ℕ → ModeEvent → Type 0
NoEvent d v = ⊥

-- ---- OFFLINE

abbrev pub named_offline : ℕ → ℕ → Option Statement
named_offline disks d = if has_bit disks d then Some statement.Offline else None

-- the disks of the set are named, at a second, with this repair time
abbrev pub OfflineNames : ℕ → ℕ → ℕ → ℕ → ModeEvent → Type 0
OfflineNames disks now repair d v = (has_bit disks d ≡ true) × (v ≡ by_offline now repair)

-- the repair time that is said, or that of the group
abbrev pub repair_in : MountedGroup → Option ℕ → ℕ
repair_in m said = unwrap_or said m.catalog.tables.templates.settings.attributes.repair

-- Once disks are taken Offline, modes have changed by the OFFLINE that names them alone.
abbrev pub OfflineChanges : Type 0
OfflineChanges =
    (disks now : ℕ) (repair : Option ℕ) (old new : MountedGroup) → StatementTakes (named_offline disks) (group_entries old) → TakesOffline disks repair now old new
    → ModeChange (OfflineNames disks now (repair_in old repair)) (group_entries old) (group_entries new)

-- ---- DROP and UNDROP

abbrev pub named_drop : List DropDisk → ℕ → Option Statement
named_drop disks d = option_map drop_as (drop_option_of disks d)

abbrev pub drop_event : Bool → ModeEvent
drop_event true = by_force
drop_event false = by_drop

-- the statement names the disk, and this is the last option that it gives it
abbrev pub DropNames : List DropDisk → ℕ → ModeEvent → Type 0
DropNames disks d v = (force : Bool) × (drop_option_of disks d ≡ Some force) × (v ≡ drop_event force)

-- Once disks are dropped, modes have changed by the DROP that names them alone.
abbrev pub DropChanges : Type 0
DropChanges =
    (disks : List DropDisk) (power : ℕ) (old new : MountedGroup) → StatementTakes (named_drop disks) (group_entries old) → DropsDisks disks power old new
    → ModeChange (DropNames disks) (group_entries old) (group_entries new)

-- the group is named
abbrev pub UndropNames : ℕ → ModeEvent → Type 0
UndropNames d v = v ≡ by_undrop

-- Once no disk is being dropped, modes have changed by the UNDROP alone.
abbrev pub UndropChanges : Type 0
UndropChanges = (old new : MountedGroup) → Undrops old new → ModeChange UndropNames (group_entries old) (group_entries new)

-- ---- RESIZE and REBALANCE

-- the disks of the set are named, with a size or without one
abbrev pub ResizeNames : MountedGroup → ℕ → Option ℕ → ℕ → ModeEvent → Type 0
ResizeNames m disks size d v = (has_bit disks d ≡ true) × (v ≡ by_resize (units_asked m.catalog.shape m.disks size d))

-- Once disks are resized, entries have changed by the RESIZE alone: no mode did.
abbrev pub ResizeChanges : Type 0
ResizeChanges =
    (disks : ℕ) (size : Option ℕ) (power : ℕ) (old new : MountedGroup) → ResizesDisks disks size power old new
    → ModeChange (ResizeNames old disks size) (group_entries old) (group_entries new)

-- Once a rebalance is active, or none is, no entry has changed.
abbrev pub RebalanceChanges : Type 0
RebalanceChanges = (power : Option ℕ) (old new : MountedGroup) → PutsRebalance power old new → ModeChange NoEvent (group_entries old) (group_entries new)
