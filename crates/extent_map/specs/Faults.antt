-- Which chunk breaks the rule of the extents.
use Rattle.std.specs.Prelude.{◌≡◌, List, [], ◌∷◌, map, Option, Some, None, if◌then◌else◌, IsTrue}
use Rattle.asm_base.specs.Records.{DirectoryRecord, of_kinds}
use Rattle.asm_base.specs.Tables.{IsItemTable}
use Rattle.extent_map.specs.Extents.{Chunked, has_no_gap, is_chunk, item_of_chunk, full_chunk, record_of_chunk, stands_at}
use Rattle.asm_base.specs.Chunks.{Chunk, is_chunk_before}

-- the first chunk that doesn't stand behind the ones before it
abbrev pub gap_from : Option Chunk → List Chunked → Option Chunk
gap_from past [] = None
gap_from past (x ∷ table) = if stands_at past x then gap_from (full_chunk x) table else Some x.0

-- the records are chunks in order, of which this is the first that doesn't stand behind those before it
pub record HasGap (records : List DirectoryRecord) (at : Chunk) : Type 0 where
  pub table : List Chunked
  pub items : IsItemTable is_chunk_before item_of_chunk table
  pub same : of_kinds is_chunk records ≡ map record_of_chunk table
  pub gap : gap_from None table ≡ Some at

-- each table of chunks that has these records has no gap
abbrev pub IsWithoutGap : List DirectoryRecord → Type 0
IsWithoutGap records = (table : List Chunked) → IsItemTable is_chunk_before item_of_chunk table → of_kinds is_chunk records ≡ map record_of_chunk table → IsTrue (has_no_gap None table)
