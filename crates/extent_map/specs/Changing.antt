-- What a change of records does to the table of extents.
use Rattle.std.specs.Prelude.{ℕ, List, Option}
use Rattle.asm_base.specs.Chunks.{Chunk, chunk_cmp}
use Rattle.item_table.specs.Tables.{IsTable as IsKeyTable, bytes_at}
use Rattle.extent_map.specs.Extents.{Chunked, item_of_chunk}

-- the value of the record of a chunk
abbrev pub chunk_value_at : List Chunked → Chunk → Option (List ℕ)
chunk_value_at table c = bytes_at chunk_cmp item_of_chunk table c

-- chunks in order, each of the formats, with or without a gap
abbrev pub AreChunks : List Chunked → Type 0
AreChunks table = IsKeyTable chunk_cmp item_of_chunk table
