-- What slices of a rebalance do, and why they are refused.
use Rattle.std.specs.Prelude.{◌≡◌, ⊤, IfErr, OnOk, Result}
use Rattle.bay.specs.State.{BayState}
use Rattle.refusal_lines.specs.declared.refusal.DiskRef.{DiskRef}
use Rattle.refusal_lines.specs.declared.refusal.DiskRef.TheVariants as disk
use Rattle.refusal_lines.specs.declared.refusal.Refusal.{Refusal}
use Rattle.refusal_lines.specs.declared.refusal.Refusal.TheVariants as cause
use Rattle.resync.specs.group_engine.Members.{HasFailed, IsLetDown, LetsGo}
use Rattle.resync.specs.group_engine.Mounts.{IsMounted, MountedGroup, RoseOnDisk}
use Rattle.resync.specs.declared.copying.CopyError.{CopyError}
use Rattle.resync.specs.declared.copying.CopyError.TheVariants as copies

-- the disk is named by its number, and failed
abbrev pub FailedBy : MountedGroup → MountedGroup → BayState → BayState → DiskRef → Type 0
FailedBy old new s t (disk.Number d) = HasFailed old new d s t
FailedBy old new s t (disk.Spelt text) = ⊥

-- Why a slice is refused: a disk that was read, or that is to have a copy, failed; or the group takes no calls, or was dismounted. Want of
-- memory is free.
abbrev pub SliceCause : MountedGroup → MountedGroup → BayState → BayState → Refusal → Type 0
SliceCause old new s t (cause.ReadFault by) = FailedBy old new s t by
SliceCause old new s t (cause.WriteFault by) = FailedBy old new s t by
SliceCause old new s t (cause.Dismounted by) = IsLetDown old new s t by
SliceCause old new s t cause.NoMemory = ⊤
SliceCause old new s t _ = ⊥

-- the disk from which bytes were read, or to which they go, failed
abbrev pub HasCopyFault : MountedGroup → BayState → BayState → CopyError → Type 0
HasCopyFault m s t (copies.Unread d) = RoseOnDisk m d s t
HasCopyFault m s t (copies.Unwritten d) = RoseOnDisk m d s t
HasCopyFault m s t copies.Nowhere = ⊤

-- A step of a slice, or several of them.
pub record Goes (old : MountedGroup) (answer : Result (Unit {0}) Refusal) (new : MountedGroup) (s t : BayState) : Type 0 where
  pub lets : LetsGo old new s t
  pub mounted : OnOk answer (IsMounted new)
  pub cause : IfErr answer (SliceCause old new s t)
