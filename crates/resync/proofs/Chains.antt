-- Calls one after the other: why they are refused.
use Rattle.std.proofs.Common.{◌≡◌, ◌∙◌, ℕ, Result, Ok, Err}
use Rattle.std.specs.Prelude.{IfErr}
use Rattle.bay.specs.State.{BayState}
use Rattle.asm_base.specs.declared.kinds.ExtentId.{ExtentId}
use Rattle.refusal_lines.specs.declared.refusal.DiskRef.TheVariants.{Number, Spelt}
use Rattle.refusal_lines.specs.declared.refusal.Refusal.{Refusal}
use Rattle.refusal_lines.specs.declared.refusal.Refusal.TheVariants as cause
use Rattle.file_extents.specs.group_engine.Commits.{StatusCause}
use Rattle.file_extents.specs.group_engine.Mounts.{IsMounted, MountedGroup}
use Rattle.file_extents.specs.group_engine.Own.{KeepsGroup}
use Rattle.file_extents.proofs.group_engine.Causes.{dismount_on}
use Rattle.file_extents.specs.group_pieces.Reads.{IsReadCause}
use Rattle.file_extents.specs.group_pieces.declared.reading.ReadError.{ReadError}
use Rattle.file_extents.specs.group_pieces.declared.reading.ReadError.TheVariants as reads
use Rattle.file_extents.proofs.Chains.{fault_on, rose_on}
use Rattle.resync.specs.declared.copying.CopyError.{CopyError}
use Rattle.resync.specs.declared.copying.CopyError.TheVariants as copies
use Rattle.resync.specs.Copying.{CopyCause, refusal_of, copy_error_of}
use Rattle.resync.specs.Syncing.{SyncCause}

-- a failed disk in the second call failed in both
pub copies_on : {m : MountedGroup} {s t : BayState} (keeps : KeepsGroup m m s t) (u : BayState) (to : ℕ) (e : CopyError) → CopyCause m to t u e → CopyCause m to s u e
copies_on keeps u to (copies.Unread d) why = rose_on keeps u d why
copies_on keeps u to (copies.Unwritten d) why = (why.0, rose_on keeps u d why.1)
copies_on keeps u to copies.Nowhere why = tt

-- bytes that can't be read
pub unread_copies : (m : MountedGroup) (x : ExtentId) (inner to : ℕ) (s t : BayState) (e : ReadError) → IsReadCause m x inner s t e → CopyCause m to s t (copy_error_of e)
unread_copies m x inner to s t (reads.Fault d) why = why.rose
unread_copies m x inner to s t reads.Lost why = tt

-- what is answered where bytes aren't copied
pub copy_syncs : (m : MountedGroup) (to d : ℕ) (s t : BayState) (e : CopyError) → to ≡ d → CopyCause m to s t e → SyncCause m d m s t (refusal_of e)
copy_syncs m to d s t (copies.Unread k) same why = why
copy_syncs m to d s t (copies.Unwritten k) same why = (why.0 ∙ same, why.1)
copy_syncs m to d s t copies.Nowhere same why = tt

pub status_syncs : (a b : MountedGroup) (d : ℕ) (s t : BayState) (e : Refusal) → StatusCause a b s t e → SyncCause a d b s t e
status_syncs a b d s t (cause.Dismounted by) why = why
status_syncs a b d s t cause.NoMemory why = tt
status_syncs a b d s t _ why = absurd why

module _ {a b : MountedGroup} {s t : BayState} (keeps : KeepsGroup a b s t) (mounted : IsMounted b) (u : BayState) (c : MountedGroup) (d : ℕ) where
  pub sync_on : (e : Refusal) → SyncCause b d c t u e → SyncCause a d c s u e
  sync_on (cause.ReadFault by) why = fault_on keeps u by why
  sync_on (cause.WriteFault (Number k)) why = (why.0, rose_on keeps u k why.1)
  sync_on (cause.WriteFault (Spelt text)) why = absurd why
  sync_on (cause.Dismounted by) why = dismount_on keeps u c mounted by why
  sync_on cause.NoMemory why = tt
  sync_on _ why = absurd why

pub on_err : {T E : Type 0} (P Q : E → Type 0) (r : Result T E) → ((e : E) → P e → Q e) → IfErr r P → IfErr r Q
on_err P Q (Ok done) turns why = tt
on_err P Q (Err e) turns why = turns e why
