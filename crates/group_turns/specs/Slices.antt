-- How expiries and slices end, in the words of the world.
use Rattle.std.specs.Prelude.{◌≡◌, ⊤, ℕ, Option, Some, None, Result, Ok, Err}
use Rattle.asm_formats.specs.Items.{DiskInfo}
use Rattle.asm_group.specs.Names.{Bytes}
use Rattle.refusal_lines.specs.declared.refusal.DiskRef.{DiskRef}
use Rattle.refusal_lines.specs.declared.refusal.DiskRef.TheVariants as disk
use Rattle.refusal_lines.specs.declared.refusal.Refusal.{Refusal}
use Rattle.refusal_lines.specs.declared.refusal.Refusal.TheVariants as cause
use Rattle.asm_world.specs.Reply as w
use Rattle.asm_world.specs.Text.{event_text}
use Rattle.disk_modes.specs.disk_directory.Disks.{info_at}
use Rattle.disk_modes.specs.group_engine.Mounts.{MountedGroup}
use Rattle.group_turns.specs.declared.failure.Failure.{Failure}
use Rattle.group_turns.specs.declared.failure.Failure.TheVariants as failure
use Rattle.relocation.specs.Shortfalls.{HasNoDiskFor, HasNoSource}
use Rattle.relocation.specs.declared.asking.Slice.{Slice}
use Rattle.relocation.specs.declared.asking.Slice.TheVariants as slice
use Rattle.relocation.specs.resync.declared.slice.Resynced.{Resynced}
use Rattle.relocation.specs.resync.declared.slice.Resynced.TheVariants as sync

abbrev pub name_or : Bytes → Option DiskInfo → Bytes
name_or name None = name
name_or name (Some info) = info.name

-- a disk's name, and that of the group where there is no record of the disk
abbrev pub shown_name : MountedGroup → ℕ → Bytes
shown_name m disk = name_or m.name (info_at m.catalog.tables.disks disk)

abbrev pub fault_by : DiskRef → Failure
fault_by (disk.Number number) = failure.Fault number
fault_by (disk.Spelt text) = failure.NoMemory

abbrev pub failure_by : DiskRef → Failure
failure_by (disk.Number number) = failure.Dismounted number
failure_by (disk.Spelt text) = failure.NoMemory

-- what a refusal of an expiry or a slice says
abbrev pub failure_of : Refusal → Failure
failure_of (cause.ReadFault disk) = fault_by disk
failure_of (cause.WriteFault disk) = fault_by disk
failure_of (cause.Dismounted disk) = failure_by disk
failure_of another = failure.NoMemory

abbrev pub failed_rebalance : MountedGroup → Failure → ℕ → Option w.Rebalanced
failed_rebalance m (failure.Fault disk) steps = Some (w.MoveFault steps (shown_name m disk))
failed_rebalance m (failure.Dismounted disk) steps = Some (w.MoveEnds (shown_name m disk))
failed_rebalance m failure.NoMemory steps = None

-- how a slice of a rebalance ended after these steps; none tells of a want of memory
abbrev pub rebalanced_by : MountedGroup → Result Slice Refusal → ℕ → Option w.Rebalanced
rebalanced_by m (Ok slice.More) steps = Some (w.MovesLeft steps)
rebalanced_by m (Ok slice.Done) steps = Some (w.Finished steps)
rebalanced_by m (Ok (slice.NoSpace extent)) steps = Some (w.OutOfSpace steps extent.file extent.index)
rebalanced_by m (Ok (slice.Lost extent)) steps = Some (w.LostExtent steps extent.file extent.index)
rebalanced_by m (Err refusal) steps = failed_rebalance m (failure_of refusal) steps

abbrev pub failed_resync : MountedGroup → Failure → ℕ → Option w.Resynced
failed_resync m (failure.Fault disk) steps = Some (w.SyncFault steps (shown_name m disk))
failed_resync m (failure.Dismounted disk) steps = Some (w.SyncEnds (shown_name m disk))
failed_resync m failure.NoMemory steps = None

-- the same of a resync
abbrev pub resynced_by : MountedGroup → Result Resynced Refusal → ℕ → Option w.Resynced
resynced_by m (Ok sync.More) steps = Some (w.MarksLeft steps)
resynced_by m (Ok sync.Online) steps = Some (w.Back steps)
resynced_by m (Ok (sync.Left extent)) steps = Some (w.LeftMarked extent.file extent.index)
resynced_by m (Err refusal) steps = failed_resync m (failure_of refusal) steps

-- where a slice of a rebalance ended before all was done: by the group's tables and record no disk can take a copy of the extent that is
-- to be elsewhere, or no copy of it can be read
abbrev pub RebalancedCause : MountedGroup → w.Rebalanced → Type 0
RebalancedCause m (w.OutOfSpace steps file index) = HasNoDiskFor m (record { file = file; index = index })
RebalancedCause m (w.LostExtent steps file index) = HasNoSource m (record { file = file; index = index })
RebalancedCause m another = ⊤

-- The line of a slice of the group's rebalance, which ended so for its cause.
pub record IsMovedLine (m : MountedGroup) (line : Bytes) : Type 0 where
  pub how : w.Rebalanced
  pub text : line ≡ event_text (w.Moved m.name how)
  pub cause : RebalancedCause m how
