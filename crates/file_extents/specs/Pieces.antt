-- Where the bytes of a piece of a file lie.
use Rattle.std.specs.Prelude.{◌≡◌, ℕ}
use Rattle.asm_group.specs.declared.Stripe.{Stripe}
use Rattle.asm_group.specs.Shape.{Shape}
use Rattle.catalog_tables.specs.striping.declared.layout.Layout.{Layout}
use Rattle.group_pieces.specs.piece_laws.Walks.{IsStep}
use Rattle.group_pieces.specs.Usable.{piece_of}
use Rattle.file_extents.specs.declared.layout.Piece.{Piece}

-- the layout is one of groups of this shape
abbrev pub IsOfShape : Layout → Shape → Type 0
IsOfShape l s = (l.au ≡ s.au) × (l.step ≡ s.step)

-- the piece is the first of a span of a file that begins at byte `at`
abbrev pub IsFirstPiece : Shape → Stripe → ℕ → ℕ → ℕ → Piece → Type 0
IsFirstPiece s stripe f at len p = IsStep s stripe f at len (piece_of p.x p.inner p.len)
