-- What a read of a piece of an extent does.
use Rattle.std.specs.Prelude.{ℕ}
use Rattle.bay.specs.Image.{Same}
use Rattle.bay.specs.State.{BayState, KeepsAttached}
use Rattle.bay.specs.Moments.{Runs}
use Rattle.asm_base.specs.declared.kinds.ExtentId.{ExtentId}
use Rattle.record_laws.specs.group_engine.Mounts.{IsOwn, IsReady, MountedGroup}
use Rattle.group_pieces.specs.declared.reading.ReadError.{ReadError}
use Rattle.group_pieces.specs.declared.reading.ReadError.TheVariants as reads
use Rattle.group_pieces.specs.Faults.{IsFault}
use Rattle.group_pieces.specs.Usable.{AreNone, places_at}

-- No disk changes, and the group takes the next call.
pub record ReadsGroup (m : MountedGroup) (s t : BayState) : Type 0 where
  pub attached : KeepsAttached s t
  pub runs : Runs (IsOwn m) Same s t
  pub ready : IsReady m t

-- why a read is refused: Lost where no copy is usable, and a fault where the slots of all usable ones failed
abbrev pub IsReadCause : MountedGroup → ExtentId → ℕ → BayState → BayState → ReadError → Type 0
IsReadCause m x inner s t reads.Lost = AreNone (places_at m x inner)
IsReadCause m x inner s t (reads.Fault disk) = IsFault m x inner s t disk
