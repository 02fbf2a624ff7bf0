-- What is left of a group whose span is put anew.
use Rattle.std.specs.Prelude.{◌≡◌, ◌≢◌, ℕ, ◌+◌, ◌<◌, ◌≤◌, if◌then◌else◌, ◌==◌, length, get_or, IsTrue}
use Rattle.std.specs.Option.{option_map}
use Rattle.std.specs.FinMap as maps
use Rattle.asm_group.specs.Shape.{Shape, is_shape}
use Rattle.asm_group.specs.Group.{Cell, Free, File, Group}
use Rattle.asm_placement.specs.Layout.{file_byte}
use Rattle.asm_images.specs.Describing.{extent_size, LiesIn}
use Rattle.asm_images.specs.Spans.{Span, file_with, group_with}

-- All but the span's file stays, and that is put.
abbrev pub FilesArePut : Type 0
FilesArePut =
    (x : Span) (put : ℕ → Cell) (g : Group)
    → (group_with x put g ≡ record g { files = (group_with x put g).files })
    × ((f : ℕ) → maps.get (group_with x put g).files f ≡ (if f == x.file then option_map (file_with g.shape x put) (maps.get g.files f) else maps.get g.files f))

-- The file keeps its length.
abbrev pub LengthStays : Type 0
LengthStays = (s : Shape) (x : Span) (put : ℕ → Cell) (file : File) → length (file_with s x put file).cells ≡ length file.cells

-- A cell that lies in the span is put, by its inner byte.
abbrev pub CellIsPut : Type 0
CellIsPut =
    (s : Shape) (x : Span) (put : ℕ → Cell) (file : File) (o inner : ℕ) → IsTrue (is_shape s) → x.from + x.len ≤ extent_size s x.index
    → o < length file.cells → LiesIn s file.stripe o x.index inner → x.from ≤ inner → inner < x.from + x.len
    → get_or (file_with s x put file).cells o Free ≡ put inner

-- Any other cell stays.
abbrev pub CellStays : Type 0
CellStays =
    (s : Shape) (x : Span) (put : ℕ → Cell) (file : File) (o : ℕ)
    → ((inner : ℕ) → x.from ≤ inner → inner < x.from + x.len → file_byte file.stripe s.au s.step x.index inner ≢ o)
    → get_or (file_with s x put file).cells o Free ≡ get_or file.cells o Free
