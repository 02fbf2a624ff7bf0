-- Several commits that take no new block, as they end a pending operation.
use Rattle.std.specs.Prelude.{◌≡◌, ℕ, ◌+◌, ◌<◌, ◌≤◌, ◌^◌, List, [], ◌∷◌, length, filter, IfErr, OnOk, Option, Some, None, Result}
use Rattle.bay.specs.Moments.{LeavesOnly}
use Rattle.bay.specs.State.{BayState}
use Rattle.asm_group.specs.Group.{Group}
use Rattle.asm_group.specs.Shape.{Shape}
use Rattle.refusal_lines.specs.declared.refusal.Refusal.{Refusal}
use Rattle.asm_formats.specs.Items.{FileHead}
use Rattle.asm_formats.specs.Status.{Entry}
use Rattle.asm_placement.specs.Modes.{serves}
use Rattle.asm_images.specs.Kept.{Kept}
use Rattle.rebalance.specs.catalog.FilePlans.{HasSoMany}
use Rattle.rebalance.specs.catalog_tables.Tables.{Tables}
use Rattle.rebalance.specs.extent_map.Extents.{Chunked}
use Rattle.asm_base.specs.Chunks.{Chunk}
use Rattle.group_of.specs.Describing.{KeepsNames}
use Rattle.group_engine.specs.Commits.{KeepsRecord, StandsIn, StatusCause, turns_at_most}
use Rattle.group_engine.specs.Mounts.{IsMounted, MountedGroup, Mounts}
use Rattle.group_engine.specs.Own.{KeepsGroup}

-- Commits that take no block, on a group that takes calls: what they keep, that it takes calls once they are done, and why they are
-- refused.
pub record GoesOn (old : MountedGroup) (answer : Result (Unit {0}) Refusal) (new : MountedGroup) (s t : BayState) : Type 0 where
  pub keeps : KeepsGroup old new s t
  pub mounted : OnOk answer (IsMounted new)
  pub cause : IfErr answer (StatusCause old new s t)

-- Turns don't run out, whichever of the group's directory copies are given up.
abbrev pub HasTurns : MountedGroup → Type 0
HasTurns m = turns_at_most m + 1 < 2 ^ 64

-- how many disks serve reads and writes
abbrev pub serving_in : List Entry → ℕ
serving_in entries = length (filter (λ (e : Entry). serves e.mode) entries)

-- The turns that were taken, and one for each copy and each disk that may fail still: a record by which disks are taken Offline costs one
-- that served.
abbrev pub turns_with_faults : MountedGroup → ℕ
turns_with_faults m = turns_at_most m + serving_in m.register.value.entries

-- Turns don't run out, whatever fails.
abbrev pub OutlastsFaults : MountedGroup → Type 0
OutlastsFaults m = turns_with_faults m + 1 < 2 ^ 64

-- Each image of each moment from s to t is held for the group that was mounted, and for no other.
abbrev pub StandsThrough : MountedGroup → BayState → BayState → Type 0
StandsThrough m s t = (n : ℕ) (g : Group) (kept : Kept) → Mounts n m s g kept → HasTurns m → LeavesOnly s t (StandsIn n m.register.id (g ∷ []) kept)

-- The group that was mounted is mounted, with the same disks attached.
abbrev pub StaysMounted : MountedGroup → MountedGroup → BayState → BayState → Type 0
StaysMounted old new s t = (n : ℕ) (g : Group) (kept : Kept) → Mounts n old s g kept → HasTurns old → (later : Kept) × (later.slots ≡ kept.slots) × Mounts n new t g later

-- Commits by which an operation ends: besides, the record that holds is kept, so are heads, names, templates and settings once they are
-- done, and a group that is mounted stays the one that it is.
pub record EndsOn (old : MountedGroup) (answer : Result (Unit {0}) Refusal) (new : MountedGroup) (s t : BayState) : Type 0 where
  pub goes : GoesOn old answer new s t
  pub status : KeepsRecord old.register.value new.register.value
  pub names : OnOk answer (KeepsNames old.catalog.tables new.catalog.tables)
  pub turns : turns_at_most new ≤ turns_at_most old
  pub moments : StandsThrough old s t
  pub stays : IsMounted new → StaysMounted old new s t

-- by its size a file has so many extents, where it has a head
abbrev pub HasAtMost : Shape → Option FileHead → ℕ → Type 0
HasAtMost s None n = Unit {0}
HasAtMost s (Some head) n = HasSoMany s head n

-- the key of the first chunk
abbrev pub first_key : List Chunked → Option Chunk
first_key [] = None
first_key (x ∷ xs) = Some x.0

-- the tables with no pending operation
abbrev pub without_pending : Tables → Tables
without_pending t = record t { operations = record t.operations { pending = None } }
