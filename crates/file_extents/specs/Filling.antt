-- New extents that are filled, and the disks that fail meanwhile.
use Rattle.std.specs.Prelude.{◌≡◌, ◌⊎◌, ⊤, ℕ, ◌<◌, true}
use Rattle.bay.specs.State.{BayState}
use Rattle.refusal_lines.specs.declared.refusal.DiskRef.{DiskRef}
use Rattle.refusal_lines.specs.declared.refusal.DiskRef.TheVariants as disk
use Rattle.refusal_lines.specs.declared.refusal.Refusal.{Refusal}
use Rattle.refusal_lines.specs.declared.refusal.Refusal.TheVariants as cause
use Rattle.asm_formats.specs.Sets.{has_bit}
use Rattle.group_pieces.specs.group_engine.Commits.{DismountCause}
use Rattle.group_pieces.specs.group_engine.Mounts.{MountedGroup, RoseOnDisk}
use Rattle.file_extents.specs.declared.sparing.Took.{Took}
use Rattle.file_extents.specs.declared.sparing.Took.TheVariants as took
use Rattle.file_extents.specs.declared.filling.Contents.{Contents}
use Rattle.file_extents.specs.declared.filling.Contents.TheVariants as contents

-- the disk is named by its number, and failed
abbrev pub FaultOn : MountedGroup → BayState → BayState → DiskRef → Type 0
FaultOn m s t (disk.Number d) = RoseOnDisk m d s t
FaultOn m s t (disk.Spelt text) = ⊥

-- where a write to a copy failed, the slot of its disk did
abbrev pub HasFailedWrite : MountedGroup → ℕ → Took → BayState → BayState → Type 0
HasFailedWrite m d took.Failed s t = (d < 64) × RoseOnDisk m d s t
HasFailedWrite m d took.All s t = ⊤
HasFailedWrite m d took.Nowhere s t = ⊤

-- a disk is in the set that was in the one before, or failed since
abbrev pub FailsMore : MountedGroup → ℕ → ℕ → BayState → BayState → Type 0
FailsMore m before after s t = (k : ℕ) → k < 64 → has_bit after k ≡ true → (has_bit before k ≡ true) ⊎ RoseOnDisk m k s t

-- the disk was in the set, or failed since
abbrev pub FailedIn : MountedGroup → ℕ → BayState → BayState → DiskRef → Type 0
FailedIn m before s t (disk.Number d) = ((d < 64) × (has_bit before d ≡ true)) ⊎ RoseOnDisk m d s t
FailedIn m before s t (disk.Spelt text) = ⊥

-- Why the next bytes of a file that is filled aren't put: this disk failed, now or before; or the group takes no calls, or was
-- dismounted. Want of memory is free.
abbrev pub PutCause : MountedGroup → ℕ → MountedGroup → BayState → BayState → Refusal → Type 0
PutCause old before new s t (cause.WriteFault by) = FailedIn old before s t by
PutCause old before new s t (cause.Dismounted by) = DismountCause old new s t by
PutCause old before new s t cause.NoMemory = ⊤
PutCause old before new s t _ = ⊥

-- why bytes aren't written to new extents: this disk is in the set of those that failed. Want of memory is free.
abbrev pub FillCause : ℕ → Refusal → Type 0
FillCause failed (cause.WriteFault (disk.Number d)) = (d < 64) × (has_bit failed d ≡ true)
FillCause failed (cause.WriteFault (disk.Spelt text)) = ⊥
FillCause failed cause.NoMemory = ⊤
FillCause failed _ = ⊥

-- the file's bytes end at its size; zeros go to the end of its extents
abbrev pub end_by : Contents → ℕ → ℕ → Type 0
end_by contents.Bytes size end = end ≡ size
end_by contents.Zeros size end = ⊤
