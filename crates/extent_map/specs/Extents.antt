-- The table of extents, as the list of the chunks in the order of file and number.
use Rattle.std.specs.Prelude.{ℕ, ◌+◌, ◌-◌, ◌*◌, ◌/◌, ◌%◌, ◌<◌, ◌^◌, ◌↔◌, Bool, true, false, ◌==◌, ◌&&◌, ◌||◌, not, List, [], ◌∷◌, ◌++◌, length, take, drop, get_or, nat_lt, replicate, slice_set, Option, Some, None, if◌then◌else◌, IsTrue}
use Rattle.std.specs.BTreeMap.{is_at}
use Rattle.std.specs.Map.{set_value}
use Rattle.std.specs.List.{list_all, prefix_len}
use Rattle.std.specs.Option.{is_some, option_and_then, unwrap_or}
use Rattle.asm_formats.specs.Items.{Homes, Item, chunk_item, chunk_len, is_homes, Key, files_kind}
use Rattle.asm_base.specs.Records.{DirectoryRecord}
use Rattle.asm_base.specs.Chunks.{Chunk, chunk_cmp}
use Rattle.item_table.specs.Tables.{IsTable as IsKeyTable, add_record as key_add, record_of as key_record}
-- the extents of a chunk, the table with other extents of it or without it, and the chunks from one on, in order
pub use Rattle.item_table.specs.Chunks.{at_chunk as chunk_at, with_chunk, without_chunk, from_chunk as chunks_from}

-- a chunk's extents, each with the homes of three copies
abbrev pub Chunked : Type 0
Chunked = Chunk × List Homes

-- ---- extents

-- no extent
abbrev pub absent_homes : Homes
absent_homes = None ∷ None ∷ None ∷ []

-- the extent is there: it has a home
abbrev pub has_home : Homes → Bool
has_home homes = is_some (get_or homes 0 None) || (is_some (get_or homes 1 None) || is_some (get_or homes 2 None))

-- the homes of an extent that is there
abbrev pub extent_at : List Chunked → ℕ → ℕ → Option Homes
extent_at table f i = option_and_then (λ chunk. if has_home (get_or chunk (i % chunk_len) []) then Some (get_or chunk (i % chunk_len) []) else None) (chunk_at table (f, i / chunk_len))

-- the file has the extent: it has a home in its chunk
abbrev pub has_extent : List Chunked → ℕ → ℕ → Bool
has_extent table f i = has_home (get_or (unwrap_or (chunk_at table (f, i / chunk_len)) []) (i % chunk_len) [])

abbrev pub HasExtent : List Chunked → ℕ → ℕ → Type 0
HasExtent table f i = IsTrue (has_extent table f i)

-- the file has the extents below this number, and no others
abbrev pub HasCount : List Chunked → ℕ → ℕ → Type 0
HasCount table f n = (i : ℕ) → HasExtent table f i ↔ i < n

-- extent i may be put with these homes: its chunk has a number, and each home is one of the formats
abbrev pub may_stand : ℕ → Homes → Bool
may_stand i homes = nat_lt (i / chunk_len + 1) (2 ^ 32) && (is_homes homes && has_home homes)

-- the table with other homes at a place of a chunk that is there
abbrev pub with_homes : List Chunked → Chunk → ℕ → Homes → List Chunked
with_homes table chunk place homes = set_value (is_at (chunk_cmp chunk)) table (slice_set (unwrap_or (chunk_at table chunk) []) place homes)

-- with an extent, in a new chunk where there is none; and without it
abbrev pub with_extent : List Chunked → ℕ → ℕ → Homes → List Chunked
with_extent table f i homes =
    if is_some (chunk_at table (f, i / chunk_len)) then with_homes table (f, i / chunk_len) (i % chunk_len) homes
    else with_chunk table (f, i / chunk_len) (slice_set (replicate chunk_len absent_homes) (i % chunk_len) homes)

abbrev pub without_extent : List Chunked → ℕ → ℕ → List Chunked
without_extent table f i = with_homes table (f, i / chunk_len) (i % chunk_len) absent_homes

-- ---- a chunk with more extents

-- how many of a chunk's extents are there from the first on
abbrev pub count_in : List Homes → ℕ
count_in chunk = prefix_len has_home chunk

-- the chunk with these extents behind those
abbrev pub with_more : List Homes → List Homes → List Homes
with_more chunk homes = take (count_in chunk) chunk ++ homes ++ drop (count_in chunk + length homes) chunk

-- the extents of a chunk, none of which are there where it isn't
abbrev pub chunk_or_blank : List Chunked → Chunk → List Homes
chunk_or_blank table chunk = unwrap_or (chunk_at table chunk) (replicate chunk_len absent_homes)

-- the extents of a chunk below a place, and none from there on
abbrev pub cut_to : ℕ → List Homes → List Homes
cut_to kept chunk = take kept chunk ++ drop kept (replicate chunk_len absent_homes)

-- the chunk is the file's first, or the last extent of the one before is there
abbrev pub follows : List Chunked → ℕ → ℕ → Bool
follows table f c = (c == 0) || has_extent table f (c * chunk_len - 1)

-- each extent is there, with homes of the formats
abbrev pub are_extents : List Homes → Bool
are_extents homes = list_all is_homes homes && list_all has_home homes

-- ---- records

abbrev pub chunk_key : ℕ → ℕ → Key
chunk_key f c = record { kind = files_kind; a = f; b = c + 1 }

abbrev pub item_of_chunk : Chunked → Item
item_of_chunk x = chunk_item x.0.0 x.0.1 x.1

abbrev pub record_of_chunk : Chunked → DirectoryRecord
record_of_chunk x = key_record item_of_chunk x

-- the head of a file has the second number 0
abbrev pub is_chunk : Key → Bool
is_chunk key = (key.kind == files_kind) && not (key.b == 0)

-- the entry that an item is
abbrev pub chunk_of_item : Item → Option Chunked
chunk_of_item (chunk_item f c homes) = Some ((f, c), homes)
chunk_of_item _ = None

-- the number of a chunk has room in its key
abbrev pub IsNumbered : Chunked → Type 0
IsNumbered x = x.0.1 + 1 < 2 ^ 32

-- ---- the rule: the extents of a file are numbered from 0 without a gap

-- extents that are there stand first
abbrev pub stand_first : Bool → List Homes → Bool
stand_first ended [] = true
stand_first ended (h ∷ homes) = if ended && has_home h then false else stand_first (not (has_home h)) homes

abbrev pub is_full : List Homes → Bool
is_full homes = list_all has_home homes

abbrev pub is_blank : List Homes → Bool
is_blank homes = list_all (λ h. not (has_home h)) homes

abbrev pub is_behind : Option Chunk → Chunk → Bool
is_behind None chunk = false
is_behind (Some before) chunk = (before.0 == chunk.0) && (before.1 + 1 == chunk.1)

-- a chunk with extents is the file's first, or stands behind a full one
abbrev pub stands_at : Option Chunk → Chunked → Bool
stands_at past x = stand_first false x.1 && (is_blank x.1 || (x.0.1 == 0 || is_behind past x.0))

abbrev pub full_chunk : Chunked → Option Chunk
full_chunk x = if is_full x.1 then Some x.0 else None

-- where this chunk, if any, is the one before and full
abbrev pub has_no_gap : Option Chunk → List Chunked → Bool
has_no_gap past [] = true
has_no_gap past (x ∷ table) = if stands_at past x then has_no_gap (full_chunk x) table else false

-- a table: chunks in order, each of the formats, without a gap
abbrev pub IsExtentTable : List Chunked → Type 0
IsExtentTable table = IsKeyTable chunk_cmp item_of_chunk table × IsTrue (has_no_gap None table)

abbrev pub add_chunk_record : List Chunked → DirectoryRecord → Option (List Chunked)
add_chunk_record table e = key_add chunk_cmp chunk_of_item table e

-- only a table without a gap
abbrev pub without_gap : Option (List Chunked) → Option (List Chunked)
without_gap read = option_and_then (λ table. if has_no_gap None table then Some table else None) read
