-- Tables by file and number of a chunk: what is kept of a chunk.
use Rattle.std.specs.Prelude.{List, Option}
use Rattle.asm_base.specs.Chunks.{Chunk, chunk_cmp}
use Rattle.item_table.specs.Tables.{at_key, from_key, with_key, without_key}

abbrev pub at_chunk : {T : Type 0} → List (Chunk × T) → Chunk → Option T
at_chunk table chunk = at_key chunk_cmp table chunk

-- the table that keeps this of a chunk, and the one without the chunk
abbrev pub with_chunk : {T : Type 0} → List (Chunk × T) → Chunk → T → List (Chunk × T)
with_chunk table chunk kept = with_key chunk_cmp table chunk kept

abbrev pub without_chunk : {T : Type 0} → List (Chunk × T) → Chunk → List (Chunk × T)
without_chunk table chunk = without_key chunk_cmp table chunk

-- what is kept of the chunks from this one on, in order
abbrev pub from_chunk : {T : Type 0} → List (Chunk × T) → Chunk → List (Chunk × T)
from_chunk table chunk = from_key chunk_cmp table chunk
