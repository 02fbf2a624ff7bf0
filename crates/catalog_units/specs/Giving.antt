-- The units of some chunks of a table.
use Rattle.std.specs.Prelude.{◌≡◌, ℕ, Bool, ◌&&◌, not, List, ◌++◌, ◌<◌, map, filter, take, true, false, Some}
use Rattle.std.specs.BTreeMap.{is_at}
use Rattle.catalog_tables.specs.asm_formats.Items.{Key, files_kind}
use Rattle.catalog_tables.specs.asm_base.Records.{DirectoryRecord}
use Rattle.catalog_tables.specs.page_map.Changes.{is_gone}
use Rattle.catalog_tables.specs.allocator.UnitMaps.{UnitMap}
use Rattle.catalog_tables.specs.extent_map.Extents.{Chunked, chunk_key}
use Rattle.catalog_tables.specs.asm_base.Chunks.{Chunk, chunk_cmp}
use Rattle.catalog_tables.specs.Placing.{after_chunks}

-- the chunks that are meant
abbrev pub chunks_kept : (Chunk → Bool) → List Chunked → List Chunked
chunks_kept keep t = filter (λ (x : Chunked). keep x.0) t

-- the same but for one chunk
abbrev pub but : (Chunk → Bool) → Chunk → Chunk → Bool
but keep k c = keep c && not (is_at (chunk_cmp k) c)

-- from some maps, the homes of the chunks that are meant make these
abbrev pub AreUnitsOfKept : ℕ → List UnitMap → (Chunk → Bool) → List Chunked → List UnitMap → Type 0
AreUnitsOfKept step first keep t ms = after_chunks step first (chunks_kept keep t) ≡ Some ms

-- the keys of a change: those of the records that are put, and those that go
abbrev pub changed_keys : List DirectoryRecord → List Key → List Key
changed_keys put gone = map (λ (e : DirectoryRecord). e.0) put ++ gone

-- the record of the chunk isn't among these
abbrev pub is_chunk_kept : List Key → Chunk → Bool
is_chunk_kept keys c = not (is_gone keys (chunk_key c.0 c.1))

-- a key at a place of a change: the first of a chunk's record, or none that is new
pub record IsNewKey (keys : List Key) (place : ℕ) (k : Key) : Type 0 where
  pub kind : k.kind ≡ files_kind
  pub some : 0 < k.b
  pub first : is_gone (take place keys) k ≡ false

abbrev pub IsOld : List Key → ℕ → Key → Type 0
IsOld keys place k = k.kind ≡ files_kind → 0 < k.b → is_gone (take place keys) k ≡ true
