-- What the rule of the table comes to.
use Rattle.std.specs.Prelude.{◌≡◌, ◌<◌, ◌≤◌, ◌+◌, ◌*◌, ◌^◌, ℕ, suc, false, ◌&&◌, List, length, IsTrue, is_some}
use Rattle.asm_formats.specs.Items.{Homes, chunk_len, is_homes}
use Rattle.extent_map.specs.Extents.{Chunked, HasCount, HasExtent, IsExtentTable, are_extents, chunk_at, chunk_or_blank, count_in, cut_to, follows, has_extent, has_home, may_stand, with_chunk, with_extent, with_more, without_chunk, without_extent}

-- the extents of each file are numbered from 0 without a gap
abbrev pub NumbersExtents : Type 0
NumbersExtents = (table : List Chunked) (f i : ℕ) → IsExtentTable table → HasExtent table f (suc i) → HasExtent table f i

-- a table with an extent more at a file's end is a table, and the file has one more
abbrev pub AppendsExtents : Type 0
AppendsExtents = (table : List Chunked) (f n : ℕ) (homes : Homes) → IsExtentTable table → HasCount table f n → f < 2 ^ 32 → IsTrue (may_stand n homes)
    → IsExtentTable (with_extent table f n homes) × HasCount (with_extent table f n homes) f (suc n)

-- a table without a file's last extent is a table, and the file has one less
abbrev pub TakesLast : Type 0
TakesLast = (table : List Chunked) (f n : ℕ) → IsExtentTable table → HasCount table f (suc n) → IsExtentTable (without_extent table f n) × HasCount (without_extent table f n) f n

-- a table in which an extent that is there has other homes is a table
abbrev pub ReplacesExtents : Type 0
ReplacesExtents = (table : List Chunked) (f i : ℕ) (homes : Homes) → IsExtentTable table → HasExtent table f i → IsTrue (is_homes homes && has_home homes) → IsExtentTable (with_extent table f i homes)

-- a table in which a chunk that is the file's first, or stands behind a full one, has more extents is a table
abbrev pub FillsChunks : Type 0
FillsChunks = (table : List Chunked) (f c : ℕ) (homes : List Homes) → IsExtentTable table → f < 2 ^ 32 → c + 1 < 2 ^ 32 → IsTrue (are_extents homes) → IsTrue (follows table f c)
    → count_in (chunk_or_blank table (f, c)) + length homes ≤ chunk_len → IsExtentTable (with_chunk table (f, c) (with_more (chunk_or_blank table (f, c)) homes))

-- a table without a chunk behind which the file has no extent is a table
abbrev pub TakesChunks : Type 0
TakesChunks = (table : List Chunked) (f c : ℕ) → IsExtentTable table → has_extent table f ((c + 1) * chunk_len) ≡ false → IsExtentTable (without_chunk table (f, c))

-- a table in which a chunk behind which the file has no extent has lost those from a place on is a table
abbrev pub CutsChunks : Type 0
CutsChunks =
    (table : List Chunked) (f c kept : ℕ) → IsExtentTable table → IsTrue (is_some (chunk_at table (f, c))) → has_extent table f ((c + 1) * chunk_len) ≡ false
    → IsExtentTable (with_chunk table (f, c) (cut_to kept (chunk_or_blank table (f, c))))
