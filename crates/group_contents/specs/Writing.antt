-- What the disks hold of a mounted group while a span of a file is written, and what is written at a path.
use Rattle.std.specs.Prelude.{◌≡◌, ◌⊎◌, ⊤, ℕ, ◌+◌, ◌≤◌, [], ◌∷◌, length, Some, IfErr, OnErr, OnOk, Result, Ok, Err}
use Rattle.std.specs.FinMap as maps
use Rattle.bay.specs.Moments.{LeavesOnly}
use Rattle.bay.specs.State.{BayState}
use Rattle.asm_group.specs.Group.{File, Group}
use Rattle.asm_group.specs.Names.{Bytes, Path}
use Rattle.asm_group.specs.Shape.{Shape}
use Rattle.refusal_lines.specs.declared.refusal.Refusal.{Refusal}
use Rattle.refusal_lines.specs.declared.refusal.Refusal.TheVariants as cause
use Rattle.asm_images.specs.Kept.{Kept}
use Rattle.file_extents.specs.directory_store.Answers.{NoCalls}
use Rattle.file_extents.specs.group_of.Describing.{KeepsNames}
use Rattle.file_extents.specs.group_engine.Commits.{StandsIn}
use Rattle.file_extents.specs.group_engine.Mounts.{IsMounted, MountedGroup, Mounts}
use Rattle.file_extents.specs.group_engine.Pending.{OutlastsFaults, turns_with_faults}
use Rattle.file_extents.specs.group_pieces.Held.{FlightIsSpare}
use Rattle.piece_laws.specs.FileSpans.{freed_to, written_to}
use Rattle.striping.specs.declared.layout.Layout.{Layout}
use Rattle.file_extents.specs.Pieces.{IsOfShape}
use Rattle.group_contents.specs.Files.{AtFile, IsOpened, IsSpan, SpanCause, WriteCause}
use Rattle.group_contents.specs.declared.opening.OpenFile.{OpenFile}

-- ---- a span

-- The group is mounted, the new copy of the move that is on its way is spare, and turns don't run out, whatever fails.
pub record TakesSpan (n : ℕ) (m : MountedGroup) (s : BayState) (g : Group) (kept : Kept) : Type 0 where
  pub mounts : Mounts n m s g kept
  pub spare : FlightIsSpare m
  pub turns : OutlastsFaults m

-- The group has the file that is open, with its layout, and so many bytes of it from byte `at` on.
pub record HasSpan (g : Group) (opened : OpenFile) (at len : ℕ) (file : File) : Type 0 where
  pub is_file : maps.get g.files opened.file ≡ Some file
  pub stripe : file.stripe ≡ opened.stripe
  pub within : at + len ≤ length file.cells

-- the layout is that of the file that is open, in groups of this shape
abbrev pub IsLayoutOf : Layout → OpenFile → Shape → Type 0
IsLayoutOf l opened s = IsOfShape l s × (l.stripe ≡ opened.stripe)

-- the answer without what it gives
abbrev pub done_of : {A : Type 0} → Result A Refusal → Result (Unit {0}) Refusal
done_of (Ok x) = Ok tt
done_of (Err e) = Err e

-- it takes calls still once it is done, and where each copy of an extent failed or was lost
abbrev pub StaysFor : Result (Unit {0}) Refusal → MountedGroup → Type 0
StaysFor (Ok done) new = IsMounted new
StaysFor (Err (cause.WriteFault by)) new = IsMounted new
StaysFor (Err (cause.Lost x)) new = IsMounted new
StaysFor (Err _) new = ⊤

-- the group that is mounted in the end
abbrev pub EndsAs : ℕ → MountedGroup → BayState → Group → Kept → Type 0
EndsAs n new t h kept = (later : Kept) × (later.slots ≡ kept.slots) × Mounts n new t h later

-- Bytes of a file were written from byte `at` on, piece by piece, on a group that is mounted.
pub record WritesSpan (m : MountedGroup) (opened : OpenFile) (at : ℕ) (bytes : Bytes) (answer : Result (Unit {0}) Refusal) (new : MountedGroup)
    (s t : BayState) : Type 0 where
  -- each image of each moment is held for the group with the span's cells Free
  pub moments : (n : ℕ) (g : Group) (kept : Kept) (file : File) → TakesSpan n m s g kept → HasSpan g opened at (length bytes) file
      → LeavesOnly s t (StandsIn n m.register.id (freed_to g opened.file file at (length bytes) ∷ []) kept)
  -- once it is done, the group with the bytes is mounted
  pub done : OnOk answer ((n : ℕ) (g : Group) (kept : Kept) (file : File) → TakesSpan n m s g kept → HasSpan g opened at (length bytes) file
      → EndsAs n new t (written_to g opened.file file at bytes) kept)
  -- where it was refused and the group takes calls, the one with the span's cells Free is
  pub refused : IsMounted new → OnErr answer ((n : ℕ) (g : Group) (kept : Kept) (file : File) → TakesSpan n m s g kept
      → HasSpan g opened at (length bytes) file → EndsAs n new t (freed_to g opened.file file at (length bytes)) kept)
  -- it takes no calls only where it was dismounted, or memory was short
  pub mounted : StaysFor answer new
  -- the new copy of the move that is on its way is spare still
  pub spare : IsMounted new → FlightIsSpare m → FlightIsSpare new
  -- turns are taken by faults alone
  pub turns : IsMounted new → turns_with_faults new ≤ turns_with_faults m
  -- heads, names, templates and settings stay
  pub names : IsMounted new → KeepsNames m.catalog.tables new.catalog.tables

-- ---- at a path

-- Nothing was done: there is no such file or span, an extent of the file has no usable copy, or memory was short.
pub record WritesNothing (old : MountedGroup) (path : Path) (at len : ℕ) (answer : Result (Unit {0}) Refusal) (new : MountedGroup) (s t : BayState) : Type 0 where
  pub refusal : Refusal
  pub answer_is : answer ≡ Err refusal
  pub cause_is : AtFile old path (SpanCause old at len) refusal ⊎ (refusal ≡ cause.NoMemory)
  pub same : new ≡ old
  pub calls : NoCalls s t

-- The file is there and has the span, which was written.
pub record WritesOpened (old : MountedGroup) (path : Path) (at : ℕ) (bytes : Bytes) (answer : Result (Unit {0}) Refusal) (new : MountedGroup)
    (s t : BayState) : Type 0 where
  pub file : OpenFile
  pub opened : IsOpened old.catalog.tables path file
  pub span : IsSpan old at (length bytes) file
  pub writes : WritesSpan old file at bytes answer new s t
  pub cause : IfErr answer (WriteCause old new s t)

-- Bytes of the file at a path were written from byte `at` on, or nothing was done.
abbrev pub WritesFile : MountedGroup → Path → ℕ → Bytes → Result (Unit {0}) Refusal → MountedGroup → BayState → BayState → Type 0
WritesFile old path at bytes answer new s t = WritesNothing old path at (length bytes) answer new s t ⊎ WritesOpened old path at bytes answer new s t
