-- What a change of records does to the table of stale marks.
use Rattle.std.specs.Prelude.{ℕ, List, Option}
use Rattle.asm_base.specs.Chunks.{Chunk, chunk_cmp}
use Rattle.item_table.specs.Tables.{bytes_at}
use Rattle.staleness_directory.specs.Marks.{Marked, item_of_marks}

-- the value of the record of a chunk's marks
abbrev pub marks_value_at : List Marked → Chunk → Option (List ℕ)
marks_value_at table c = bytes_at chunk_cmp item_of_marks table c
