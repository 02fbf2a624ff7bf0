-- A span of a file: what a read and a write of it mean in the world.
use Rattle.std.specs.Prelude.{◌≡◌, ℕ, ◌+◌, ◌≤◌, List, [], ◌∷◌, length, take, drop, replicate, Some, IsTrue}
use Rattle.std.specs.FinMap as maps
use Rattle.bay.specs.Image as bay
use Rattle.asm_group.specs.declared.Stripe.{Stripe}
use Rattle.asm_group.specs.Names.{Bytes}
use Rattle.asm_group.specs.Shape.{Shape, is_shape}
use Rattle.asm_group.specs.Group.{Free, File, Group}
use Rattle.asm_images.specs.Kept.{Kept, IsHeld}
use Rattle.asm_images.specs.Spans.{Span}
use Rattle.asm_world.specs.Files.{known, with_cells, with_file_cells, Agrees}
use Rattle.piece_laws.specs.Targets.{AgreesIn}
use Rattle.piece_laws.specs.Walks.{IsWalk, DiffersIn}

-- the group with these bytes in the file from byte `at` on
abbrev pub written_to : Group → ℕ → File → ℕ → Bytes → Group
written_to g f file at bytes = with_file_cells g f file (with_cells file.cells at (known bytes))

-- the group with so many bytes there Free
abbrev pub freed_to : Group → ℕ → File → ℕ → ℕ → Group
freed_to g f file at len = with_file_cells g f file (with_cells file.cells at (replicate len Free))

-- each piece's bytes agree with its known cells
abbrev pub AgreeAll : Group → List Span → Bytes → Type 0
AgreeAll g [] bytes = Unit {0}
AgreeAll g (x ∷ xs) bytes = AgreesIn g x (take x.len bytes) × AgreeAll g xs (drop x.len bytes)

-- ---- laws

-- Every span has pieces.
abbrev pub WalksExist : Type 0
WalksExist = (s : Shape) (stripe : Stripe) (f at len : ℕ) → IsTrue (is_shape s) → (pieces : List Span) × IsWalk s stripe f at len pieces

-- A group that is held, and differs from another one in a span alone, is held as that one with the span's cells Free.
abbrev pub SpanIsFree : Type 0
SpanIsFree =
    (n id : ℕ) (g h : Group) (kept : Kept) (f at len : ℕ) (file : File) (image : bay.Image) → IsTrue (is_shape g.shape) → maps.get g.files f ≡ Some file → at + len ≤ length file.cells
    → DiffersIn g h f at len → IsHeld n id (h ∷ []) kept image → IsHeld n id (freed_to g f file at len ∷ []) kept image

-- Where the bytes of all pieces agree with their known cells, the span's bytes agree with its cells.
abbrev pub PiecesAgree : Type 0
PiecesAgree =
    (g : Group) (f at : ℕ) (bytes : Bytes) (file : File) (pieces : List Span) → IsTrue (is_shape g.shape) → maps.get g.files f ≡ Some file
    → at + length bytes ≤ length file.cells → IsWalk g.shape file.stripe f at (length bytes) pieces → AgreeAll g pieces bytes
    → Agrees (take (length bytes) (drop at file.cells)) bytes
