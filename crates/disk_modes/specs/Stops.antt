-- What a stop inside statements on disks leaves of a mounted group.
use Rattle.std.specs.Prelude.{◌≡◌, ⊤, ℕ, ◌+◌, ◌^◌, ◌<◌, ◌≤◌, true, false, List, OnOk, Result}
use Rattle.bay.specs.State.{BayState}
use Rattle.refusal_lines.specs.declared.refusal.Refusal.{Refusal}
use Rattle.asm_formats.specs.Among.{IsAmong}
use Rattle.asm_formats.specs.Sets.{has_bit}
use Rattle.asm_formats.specs.Status.{Entry, Status}
use Rattle.asm_placement.specs.Modes.{is_forced, is_online}
use Rattle.group_reports.specs.catalog_tables.Rules.{KeepsRules}
use Rattle.record_laws.specs.group_engine.Commits.{turns_at_most}
use Rattle.record_laws.specs.group_engine.Mounts.{IsMounted, MountedGroup}
use Rattle.record_laws.specs.group_engine.Pending.{StandsThrough, StaysMounted}
use Rattle.disk_modes.specs.declared.changing.Changes.{Changes}
use Rattle.disk_modes.specs.declared.changing.Changes.TheVariants as changes
use Rattle.disk_modes.specs.declared.checking.Statement.{Statement}
use Rattle.disk_modes.specs.declared.checking.Statement.TheVariants as statement
use Rattle.disk_modes.specs.declared.dropping.DropDisk.{DropDisk}
use Rattle.disk_modes.specs.declared.records.NewModes.{NewModes}
use Rattle.disk_modes.specs.declared.records.NewModes.TheVariants as modes
use Rattle.disk_modes.specs.Directories.{LeavesCopy}
use Rattle.disk_modes.specs.Modes.{TakesEachDisk, drop_as, takes}
use Rattle.disk_modes.specs.Records.{taken_off}
use Rattle.disk_modes.specs.Sizes.{image_units, units_asked}
use Rattle.disk_modes.specs.declared.sizes.Asked.{Asked}

-- At each moment of a call each image is held for the group alone, whatever it answers. While the group takes calls afterwards, it is
-- mounted, with the same disks. It takes a turn at most that costs no copy.
pub record StaysHeld (old new : MountedGroup) (s t : BayState) : Type 0 where
  pub moments : StandsThrough old s t
  pub stays : IsMounted new → StaysMounted old new s t
  pub turns : turns_at_most new ≤ turns_at_most old + 1

-- The commit of a rebalance that begins or ends: besides, no turn is taken without a copy that goes, and the tables keep their rules.
pub record CommitsRebalance (old : MountedGroup) (answer : Result (Unit {0}) Refusal) (new : MountedGroup) (s t : BayState) : Type 0 where
  pub held : StaysHeld old new s t
  pub turns : turns_at_most new ≤ turns_at_most old
  pub rules : OnOk answer (KeepsRules new.catalog.shape new.catalog.tables)

-- ---- what a statement has checked before

-- disks that go Offline are Online, and none that is to be emptied is Forced
abbrev pub AreModesAllowed : NewModes → List Entry → Type 0
AreModesAllowed (modes.Offline disks since repair) es = (e : Entry) → IsAmong es e → has_bit disks e.number ≡ true → is_online e.mode ≡ true
AreModesAllowed (modes.Dropped dropping forced) es = (e : Entry) → IsAmong es e → has_bit forced e.number ≡ false → has_bit dropping e.number ≡ true → is_forced e.mode ≡ false
AreModesAllowed modes.Undropped es = ⊤

-- the statement takes the disk
abbrev pub TakesDisk : Statement → ℕ → List Entry → Type 0
TakesDisk of d es = (e : Entry) → IsAmong es e → e.number < 64 → e.number ≡ d → takes of e.mode ≡ true

-- DROP takes each disk that it names: with FORCE, where the set has it
abbrev pub AreTakenAs : MountedGroup → ℕ → List DropDisk → Type 0
AreTakenAs m forced disks = (x : DropDisk) → IsAmong disks x → TakesDisk (drop_as (has_bit forced x.disk)) x.disk m.register.value.entries

-- The new modes may be put: they are checked, and a directory copy is left.
pub record MayPutModes (to : NewModes) (r : Status) : Type 0 where
  pub taken : AreModesAllowed to r.entries
  pub left : LeavesCopy r.directories (taken_off to)

-- OFFLINE of these disks may be put: each is Online, and a directory copy is left.
pub record MayGoOffline (m : MountedGroup) (disks : ℕ) : Type 0 where
  pub online : TakesEachDisk statement.Offline disks m.register.value.entries
  pub left : LeavesCopy m.register.value.directories disks

-- turns don't run out, where a record is written before a commit
abbrev pub HasTwoTurns : MountedGroup → Type 0
HasTwoTurns m = turns_at_most m + 2 < 2 ^ 64

-- The changes may be made. Behind the commit of a rebalance no copy is taken off, since it may lose some.
abbrev pub MayMakeChanges : Changes → NewModes → MountedGroup → Type 0
MayMakeChanges changes.Modes to m = MayPutModes to m.register.value
MayMakeChanges (changes.Rebalance power) to m = ⊤
MayMakeChanges (changes.RebalanceThenModes power) to m = AreModesAllowed to m.register.value.entries × (taken_off to ≡ 0)
MayMakeChanges (changes.ModesThenRebalance power) to m = MayPutModes to m.register.value × HasTwoTurns m

-- the image of each disk that is asked for has the units that the disk is to have
abbrev pub FitImages : Asked → MountedGroup → Type 0
FitImages asked m = (d : ℕ) → d < 64 → has_bit asked.disks d ≡ true → units_asked m.catalog.shape m.disks asked.size d ≤ image_units m.catalog.shape m.disks d
