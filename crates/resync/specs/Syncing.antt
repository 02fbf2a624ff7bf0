-- Disks that come back.
use Rattle.std.specs.Prelude.{⊤, ℕ, Bool, true, false, List, find, Option}
use Rattle.std.specs.Option.{option_map}
use Rattle.bay.specs.State.{BayState}
use Rattle.asm_group.specs.declared.Mode.{Mode}
use Rattle.asm_group.specs.declared.Mode.TheVariants as mode
use Rattle.refusal_lines.specs.declared.refusal.Refusal.{Refusal}
use Rattle.refusal_lines.specs.declared.refusal.Refusal.TheVariants as cause
use Rattle.asm_formats.specs.Status.{Entry}
use Rattle.file_extents.specs.Filling.{FaultOn}
use Rattle.file_extents.specs.group_engine.Commits.{DismountCause}
use Rattle.file_extents.specs.group_engine.Mounts.{MountedGroup}
use Rattle.resync.specs.Copying.{FaultCause}

abbrev pub is_syncing : Mode → Bool
is_syncing mode.Syncing = true
is_syncing _ = false

-- the first disk that is Syncing
abbrev pub first_syncing : List Entry → Option ℕ
first_syncing es = option_map (λ (e : Entry). e.number) (find (λ (e : Entry). is_syncing e.mode) es)

-- Why a slice of a disk's resync is refused: a disk that was read failed, or that disk did; or the group takes no calls, or was
-- dismounted. Want of memory is free.
abbrev pub SyncCause : MountedGroup → ℕ → MountedGroup → BayState → BayState → Refusal → Type 0
SyncCause old d new s t (cause.ReadFault by) = FaultOn old s t by
SyncCause old d new s t (cause.WriteFault by) = FaultCause old d s t by
SyncCause old d new s t (cause.Dismounted by) = DismountCause old new s t by
SyncCause old d new s t cause.NoMemory = ⊤
SyncCause old d new s t _ = ⊥
