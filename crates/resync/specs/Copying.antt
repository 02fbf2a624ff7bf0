-- Why bytes of an extent aren't copied.
use Rattle.std.specs.Prelude.{◌≡◌, ⊤, ℕ}
use Rattle.bay.specs.State.{BayState}
use Rattle.refusal_lines.specs.declared.refusal.DiskRef.{DiskRef}
use Rattle.refusal_lines.specs.declared.refusal.DiskRef.TheVariants as disk
use Rattle.refusal_lines.specs.declared.refusal.Refusal.{Refusal}
use Rattle.refusal_lines.specs.declared.refusal.Refusal.TheVariants as cause
use Rattle.file_extents.specs.group_engine.Mounts.{MountedGroup, RoseOnDisk}
use Rattle.file_extents.specs.group_pieces.declared.reading.ReadError.{ReadError}
use Rattle.file_extents.specs.group_pieces.declared.reading.ReadError.TheVariants as reads
use Rattle.resync.specs.declared.copying.CopyError.{CopyError}
use Rattle.resync.specs.declared.copying.CopyError.TheVariants as copies

-- the disk from which they were read, or to which they go, failed
abbrev pub CopyCause : MountedGroup → ℕ → BayState → BayState → CopyError → Type 0
CopyCause m to s t (copies.Unread d) = RoseOnDisk m d s t
CopyCause m to s t (copies.Unwritten d) = (d ≡ to) × RoseOnDisk m d s t
CopyCause m to s t copies.Nowhere = ⊤

-- the disk is that of this number, and failed
abbrev pub FaultCause : MountedGroup → ℕ → BayState → BayState → DiskRef → Type 0
FaultCause m to s t (disk.Number d) = (d ≡ to) × RoseOnDisk m d s t
FaultCause m to s t (disk.Spelt text) = ⊥

-- what is answered of it
abbrev pub refusal_of : CopyError → Refusal
refusal_of (copies.Unread d) = cause.ReadFault (disk.Number d)
refusal_of (copies.Unwritten d) = cause.WriteFault (disk.Number d)
refusal_of copies.Nowhere = cause.NoMemory

-- why bytes aren't copied that can't be read
abbrev pub copy_error_of : ReadError → CopyError
copy_error_of (reads.Fault d) = copies.Unread d
copy_error_of reads.Lost = copies.Nowhere
