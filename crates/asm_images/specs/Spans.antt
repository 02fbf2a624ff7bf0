-- Steps in the users' bytes: a span of one extent is written, and settled.
use Rattle.std.specs.Prelude.{◌≡◌, ℕ, suc, ◌+◌, ◌-◌, ◌*◌, ◌<◌, ◌≤◌, Bool, false, ◌&&◌, List, [], ◌∷◌, find, slice_index, nat_lt, nat_le, ◌==◌, Option, Some, None}
use Rattle.std.specs.List.{range_with_len}
use Rattle.std.specs.FinMap as maps
use Rattle.asm_group.specs.Names.{ByNumber}
use Rattle.asm_group.specs.Shape.{Shape}
use Rattle.asm_group.specs.Group.{Cell, Known, Free, File, Group}
use Rattle.asm_placement.specs.Layout.{file_byte}
use Rattle.asm_formats.specs.Status.{Status}
use Rattle.asm_formats.specs.Items.{Item, Home}
use Rattle.asm_formats.specs.Among.{IsAmong}
use Rattle.asm_images.specs.Members.{ImageBytes, Member, byte, metadata_of, all_members}
use Rattle.asm_images.specs.Copies.{IsCurrent}
use Rattle.asm_images.specs.Describing.{extent_size}
use Rattle.asm_images.specs.Steps.{IsOpen, KeepsByte}

-- inner bytes of one extent of a file
pub record Span : Type 0 where
  pub file : ℕ
  pub index : ℕ
  -- the first inner byte, and how many
  pub from : ℕ
  pub len : ℕ

-- the byte of this file and extent is in the span
abbrev pub is_inside_span : Span → ℕ → ℕ → ℕ → Bool
is_inside_span x f i inner = (f == x.file) && (i == x.index) && nat_le x.from inner && nat_lt inner (x.from + x.len)

-- the span lies in its extent
abbrev pub FitsIn : List Group → Span → Type 0
FitsIn groups x = (g : Group) → IsAmong groups g → x.from + x.len ≤ extent_size g.shape x.index

-- ---- cells

-- the inner byte of the span at which a byte of the file lies
abbrev pub inner_of : Shape → File → Span → ℕ → Option ℕ
inner_of s file x o = find (λ inner. file_byte file.stripe s.au s.step x.index inner == o) (range_with_len x.from x.len)

-- the cell, put anew where it lies in the span
abbrev pub cell_or : (ℕ → Cell) → Cell → Option ℕ → Cell
cell_or put cell None = cell
cell_or put cell (Some inner) = put inner

-- the cells from byte o of the file on, with those of the span put
abbrev pub cells_with : Shape → File → Span → (ℕ → Cell) → ℕ → List Cell → List Cell
cells_with s file x put o [] = []
cells_with s file x put o (cell ∷ cells) = cell_or put cell (inner_of s file x o) ∷ cells_with s file x put (suc o) cells

abbrev pub file_with : Shape → Span → (ℕ → Cell) → File → File
file_with s x put file = record file { cells = cells_with s file x put 0 file.cells }

abbrev pub files_with : Shape → Span → (ℕ → Cell) → ByNumber File → Option File → ByNumber File
files_with s x put files None = files
files_with s x put files (Some file) = maps.insert files x.file (file_with s x put file)

-- the group with the span's cells put, each by its inner byte
unfoldable pub group_with : Span → (ℕ → Cell) → Group → Group
group_with x put g = record g { files = files_with g.shape x put g.files (maps.get g.files x.file) }

-- each cell of the span is Free
abbrev pub freed : Span → Group → Group
freed x g = group_with x (λ inner. Free) g

-- each cell of the span is known, of its byte among these
abbrev pub settled : Span → List ℕ → Group → Group
settled x bytes g = group_with x (λ inner. Known (slice_index bytes (inner - x.from))) g

-- ---- Piece

-- Of the bytes that current copies have under open contents, none changes but those of the span.
pub record IsPiece (id : ℕ) (old new : ImageBytes) (groups : List Group) (completed : Option Status) (begun : List Status) (x : Span) : Type 0 where
  pub fits : FitsIn groups x
  pub metadata : metadata_of new ≡ metadata_of old
  pub bytes : (r : Status) (items : List Item) (f i copy inner : ℕ) (h : Home) (m : Member) → IsOpen id old completed begun r items
      → IsAmong (all_members id old) m → IsCurrent r items f i copy h m → inner < extent_size m.header.shape i → is_inside_span x f i inner ≡ false → KeepsByte old new m h inner

-- ---- Settle

-- Each current copy under each open content has these bytes in the span.
pub record IsSpanSettled (id : ℕ) (image : ImageBytes) (groups : List Group) (completed : Option Status) (begun : List Status) (x : Span) (bytes : List ℕ) : Type 0 where
  pub fits : FitsIn groups x
  pub same : (r : Status) (items : List Item) (copy inner : ℕ) (h : Home) (m : Member) → IsOpen id image completed begun r items
      → IsAmong (all_members id image) m → IsCurrent r items x.file x.index copy h m → inner < x.len
      → byte image m.slot (h.unit * m.header.shape.au + (x.from + inner)) ≡ slice_index bytes inner
