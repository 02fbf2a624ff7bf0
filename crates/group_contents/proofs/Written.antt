-- What a write at a path did: nothing, or the span that is there was written.
use Rattle.std.proofs.Common.{◌≡◌, ◌⊎◌, inl, inr, ℕ, length, Result, Ok, Err, refl, sym, subst}
use Rattle.std.specs.Prelude.{IfErr}
use Rattle.bay.specs.State.{BayState}
use Rattle.bay.proofs.Calls.{started}
use Rattle.bay.proofs.Images.{same-refl}
use Rattle.asm_group.specs.Names.{Bytes, Path}
use Rattle.refusal_lines.specs.declared.refusal.Refusal.{Refusal}
use Rattle.refusal_lines.specs.declared.refusal.Refusal.TheVariants as cause
use Rattle.file_extents.specs.group_engine.Making.{IsShut}
use Rattle.file_extents.specs.group_engine.Mounts.{IsMounted, MountedGroup}
use Rattle.file_extents.specs.group_engine.declared.access.Access.{Access}
use Rattle.file_extents.specs.group_pieces.Held.{PieceHeld, PieceStays}
use Rattle.asm_base.specs.declared.kinds.ExtentId.{ExtentId}
use Rattle.group_contents.specs.Files.{AtFile, IsOpened, IsSpan, SpanCause, WriteCause}
use Rattle.group_contents.specs.Writing.{WritesFile, WritesSpan}
use Rattle.group_contents.specs.declared.opening.OpenFile.{OpenFile}

-- ---- a piece, with another answer of the same kind

pub piece_gives : (m new : MountedGroup) (x : ExtentId) (inner a b : ℕ) (bytes : Bytes) (s t : BayState) → PieceHeld m x inner bytes (Ok a) new s t → PieceHeld m x inner bytes (Ok b) new s t
piece_gives m new x inner a b bytes s t held = record { moments = held.moments; done = held.done; spare = held.spare; refused = held.refused; mounted = held.mounted; turns = held.turns; names = held.names }

pub piece_refuses : (m new : MountedGroup) (x : ExtentId) (inner : ℕ) (a b : Refusal) (bytes : Bytes) (s t : BayState) → PieceStays (Err b) new → PieceHeld m x inner bytes (Err a) new s t
    → PieceHeld m x inner bytes (Err b) new s t
piece_refuses m new x inner a b bytes s t stays held = record { moments = held.moments; done = held.done; spare = held.spare; refused = held.refused; mounted = stays; turns = held.turns; names = held.names }

-- a group that takes calls still does, whatever the answer is
pub piece_stays : (m : MountedGroup) (e : Refusal) → IsMounted m → PieceStays (Err e) m
piece_stays m (cause.WriteFault by) mounted = mounted
piece_stays m (cause.Lost x) mounted = mounted
piece_stays m _ mounted = tt

-- ---- at a path

-- a group that is mounted takes calls
pub not_shut : (m : MountedGroup) (e : Refusal) → IsMounted m → IsShut m.access e → ⊥
not_shut m e mounted why = subst (λ (a : Access). IsShut a e) mounted why

module _ (m : MountedGroup) (path : Path) (at len : ℕ) (bytes : Bytes) (size : length bytes ≡ len) where
  pub nothing_written : (s : BayState) (e : Refusal) → AtFile m path (SpanCause m at len) e ⊎ (e ≡ cause.NoMemory) → WritesFile m path at bytes (Err e) m s s
  nothing_written s e why = inl (record {
    refusal = e;
    answer_is = refl;
    cause_is = subst (λ (n : ℕ). AtFile m path (SpanCause m at n) e ⊎ (e ≡ cause.NoMemory)) (sym size) why;
    same = refl;
    calls = record { runs = started same-refl; calls = refl };
  })

  pub span_written : (new : MountedGroup) (s t : BayState) (opened : OpenFile) (r : Result (Unit {0}) Refusal) → IsOpened m.catalog.tables path opened → IsSpan m at len opened
      → WritesSpan m opened at bytes r new s t → IfErr r (WriteCause m new s t) → WritesFile m path at bytes r new s t
  span_written new s t opened r is span writes why = inr (record {
    file = opened;
    opened = is;
    span = subst (λ (n : ℕ). IsSpan m at n opened) (sym size) span;
    writes = writes;
    cause = why;
  })
