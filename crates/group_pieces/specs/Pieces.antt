-- Why a write of a piece of an extent is refused.
use Rattle.std.specs.Prelude.{◌≡◌, ⊤, ℕ}
use Rattle.bay.specs.State.{BayState}
use Rattle.asm_base.specs.declared.kinds.ExtentId.{ExtentId}
use Rattle.refusal_lines.specs.declared.refusal.DiskRef.{DiskRef}
use Rattle.refusal_lines.specs.declared.refusal.DiskRef.TheVariants as disk
use Rattle.refusal_lines.specs.declared.refusal.Refusal.{Refusal}
use Rattle.refusal_lines.specs.declared.refusal.Refusal.TheVariants as cause
use Rattle.record_laws.specs.group_engine.Commits.{DismountCause}
use Rattle.record_laws.specs.group_engine.Mounts.{MountedGroup}
use Rattle.group_pieces.specs.declared.writing.WriteError.{WriteError}
use Rattle.group_pieces.specs.declared.writing.WriteError.TheVariants as writes
use Rattle.group_pieces.specs.Faults.{IsFault}
use Rattle.group_pieces.specs.Usable.{AreNone, places_at}

-- what a write answers where no copy took the bytes
abbrev pub write_refusal : ExtentId → WriteError → Refusal
write_refusal x writes.Lost = cause.Lost x
write_refusal x (writes.Fault d) = cause.WriteFault (disk.Number d)

-- the slots of all usable copies failed, and the disk is that of the first
abbrev pub PieceFault : MountedGroup → ExtentId → ℕ → BayState → BayState → DiskRef → Type 0
PieceFault m x inner s t (disk.Number d) = IsFault m x inner s t d
PieceFault m x inner s t (disk.Spelt text) = ⊥

-- Why a write of a piece is refused: Lost where no copy is usable, WriteFault where the slots of all usable ones failed, and Dismounted
-- where the group was or where marks or modes couldn't be stored. Want of memory is free.
abbrev pub WritePieceCause : MountedGroup → ExtentId → ℕ → MountedGroup → BayState → BayState → Refusal → Type 0
WritePieceCause old x inner new s t (cause.Lost extent) = (extent ≡ x) × AreNone (places_at old x inner)
WritePieceCause old x inner new s t (cause.WriteFault by) = PieceFault old x inner s t by
WritePieceCause old x inner new s t (cause.Dismounted by) = DismountCause old new s t by
WritePieceCause old x inner new s t cause.NoMemory = ⊤
WritePieceCause old x inner new s t _ = ⊥
