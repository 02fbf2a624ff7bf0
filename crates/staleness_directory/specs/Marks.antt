-- The table of stale marks, as the list of the chunks' marks in the order of file and chunk.
use Rattle.std.specs.Prelude.{ℕ, ◌+◌, ◌^◌, Bool, ◌==◌, ◌&&◌, List, length, take, drop, ◌++◌, replicate, nat_lt, Option, Some, None, if◌then◌else◌}
use Rattle.std.specs.List.{list_all}
use Rattle.asm_formats.specs.Items.{Item, marks_item, Key, marks_kind}
use Rattle.asm_base.specs.Records.{DirectoryRecord}
use Rattle.asm_base.specs.Chunks.{Chunk, chunk_cmp}
use Rattle.item_table.specs.Tables.{IsTable as IsKeyTable, record_of as key_record}
-- the marks of a chunk, the table with other marks of it or without it, and the marks of the chunks from one on, in order
pub use Rattle.item_table.specs.Chunks.{at_chunk as marks_at, with_chunk as with_marks, without_chunk as without_marks, from_chunk as marks_from}
pub use Rattle.item_table.specs.Tables.{add_record}

-- a chunk's marks: of each extent a byte, bit k for copy k
abbrev pub Marked : Type 0
Marked = Chunk × List ℕ

-- the marks of a chunk's extents below a place, and none from there on
abbrev pub marks_to : ℕ → List ℕ → List ℕ
marks_to kept marks = take kept marks ++ drop kept (replicate 256 0)

abbrev pub marks_chunk_key : ℕ → ℕ → Key
marks_chunk_key f c = record { kind = marks_kind; a = f; b = c }

-- the item of a chunk's marks, and its record
abbrev pub item_of_marks : Marked → Item
item_of_marks x = marks_item x.0.0 x.0.1 x.1

abbrev pub record_of_marks : Marked → DirectoryRecord
record_of_marks x = key_record item_of_marks x

abbrev pub is_marks : Key → Bool
is_marks key = key.kind == marks_kind

-- the entry that an item is
abbrev pub marks_of_item : Item → Option Marked
marks_of_item (marks_item f c marks) = Some ((f, c), marks)
marks_of_item _ = None

-- a table: chunks in order, each of the formats
abbrev pub IsMarkTable : List Marked → Type 0
IsMarkTable table = IsKeyTable chunk_cmp item_of_marks table

-- ---- the reading of a record's value

-- each byte marks three copies at most
abbrev pub are_marks : List ℕ → Bool
are_marks bytes = list_all (λ m. nat_lt m 8) bytes

unfoldable pub read_marks : ℕ → List ℕ → Option (List ℕ)
read_marks chunk bytes = if nat_lt (chunk + 1) (2 ^ 32) && ((length bytes == 256) && are_marks bytes) then Some bytes else None
