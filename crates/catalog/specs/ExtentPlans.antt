-- What the plans of extents ask, and what they make of the tables.
use Rattle.std.specs.Prelude.{◌≡◌, ◌⊎◌, ℕ, ◌+◌, ◌-◌, ◌*◌, ◌/◌, ◌%◌, ◌^◌, ◌<◌, ◌≤◌, Bool, true, false, ◌&&◌, ◌||◌, ◌==◌, nat_lt, List, [], ◌++◌, length, take, drop, get_or, replicate, slice_set, Option, Some, None, if◌then◌else◌, IsTrue, bit_and, bit_or, is_some}
use Rattle.std.specs.List.{list_all, zip}
use Rattle.std.specs.Option.{unwrap_or}
use Rattle.asm_group.specs.Shape.{Shape}
use Rattle.refusal_lines.specs.declared.refusal.Refusal.{Refusal}
use Rattle.refusal_lines.specs.declared.refusal.Refusal.TheVariants as cause
use Rattle.asm_formats.specs.Items.{FileHead, Home, Homes, Item, chunk_len}
use Rattle.asm_placement.specs.Layout.{units_of}
use Rattle.asm_placement.specs.Moves.{with_current, with_home, without_bit}
use Rattle.asm_placement.specs.Placed.{placed_extents}
use Rattle.plan_records.specs.extent_map.Extents.{HasExtent, chunk_at, chunk_or_blank, count_in, cut_to, follows, has_extent, has_home, with_chunk, with_extent, with_more, without_chunk}
use Rattle.plan_records.specs.file_directory.Files.{head_at, is_file_number}
use Rattle.plan_records.specs.staleness_directory.Marks.{Marked, marks_at, marks_to, with_marks, without_marks}
use Rattle.plan_records.specs.catalog_tables.Faults.{IsCatalog}
use Rattle.plan_records.specs.catalog_tables.Items.{AreItemsOf}
use Rattle.plan_records.specs.catalog_tables.Placing.{after_homes, home_taken}
use Rattle.asm_placement.specs.Naming.{is_pending}
use Rattle.plan_records.specs.catalog_tables.Rules.{are_marks_of, are_on_disks, are_within_head, blocks_used, head_has_extent, marks_of, homes_at}
use Rattle.plan_records.specs.catalog_tables.Tables.{Catalogued, Tables}

-- ---- one extent

-- the marks of a chunk, none of which are set where it isn't there
abbrev pub marks_or_none : List Marked → ℕ × ℕ → List ℕ
marks_or_none stale chunk = unwrap_or (marks_at stale chunk) (replicate chunk_len 0)

-- the stale marks with others of one extent
abbrev pub with_marks_at : List Marked → ℕ → ℕ → ℕ → List Marked
with_marks_at stale f i marks = with_marks stale (f, i / chunk_len) (slice_set (marks_or_none stale (f, i / chunk_len)) (i % chunk_len) marks)

-- ---- marks

-- the marks without those that are cleared, and then with those that are set: what is in both is set
abbrev pub marks_changed : ℕ → ℕ → ℕ → ℕ
marks_changed old set clear = bit_or (bit_and old (255 - clear)) set

-- the tables once the marks of an extent are changed so
abbrev pub with_marks_changed : Tables → ℕ → ℕ → ℕ → ℕ → Tables
with_marks_changed t f i set clear = record t { stale = with_marks_at t.stale f i (marks_changed (marks_of t f i) set clear) }

-- the extent's chunk is there, and each of these marks is that of a copy of the extent that is there
pub record MayMark (t : Tables) (f i set : ℕ) : Type 0 where
  pub chunk : IsTrue (is_some (chunk_at t.extents (f, i / chunk_len)))
  pub few : set < 8
  pub copies : IsTrue (are_marks_of (set, homes_at t f i))

-- ---- a copy that moves

-- the home of a copy of an extent
abbrev pub home_at : Tables → ℕ → ℕ → ℕ → Option Home
home_at t f i copy = get_or (homes_at t f i) copy None

-- the homes of an extent with this one of a copy
abbrev pub homes_moved : Tables → ℕ → ℕ → ℕ → Home → Homes
homes_moved t f i copy h = slice_set (homes_at t f i) copy (Some h)

-- the tables once a copy of an extent has this home and no mark
abbrev pub with_move : Tables → ℕ → ℕ → ℕ → Home → Tables
with_move t f i copy h = record t { extents = with_extent t.extents f i (homes_moved t f i copy h); stale = with_marks_at t.stale f i (without_bit (marks_of t f i) copy) }

-- the copy number is below the copies of the file, where it has a head
abbrev pub is_copy_of : Option FileHead → ℕ → Bool
is_copy_of None copy = true
is_copy_of (Some head) copy = nat_lt copy head.copies

-- The extent is there and may have the copy, the other copies lie on other disks, and the home is that of the copy or a run of free user units as long as the extent.
pub record MayMove (c : Catalogued) (f i copy : ℕ) (h : Home) : Type 0 where
  pub there : HasExtent c.tables.extents f i
  pub three : copy < 3
  pub below : IsTrue (is_copy_of (head_at c.tables.files f) copy)
  pub apart : IsTrue (are_on_disks (homes_moved c.tables f i copy h))
  pub free : (home_at c.tables f i copy ≡ Some h) ⊎ IsTrue (is_some (home_taken c.units h (units_of c.shape.step i)))

-- ---- a chunk that gets extents

-- the index of the first extent that a chunk hasn't
abbrev pub first_new : Tables → ℕ → ℕ → ℕ
first_new t f n = n * chunk_len + count_in (chunk_or_blank t.extents (f, n))

-- the marks of a chunk with these behind the first n
abbrev pub marks_behind : ℕ → List ℕ → List ℕ → List ℕ
marks_behind n old new = take n old ++ new ++ drop (n + length new) old

-- the extents of a chunk with these behind those that it has, and its marks with those of these
abbrev pub homes_appended : Tables → ℕ → ℕ → List Homes → List Homes
homes_appended t f n homes = with_more (chunk_or_blank t.extents (f, n)) homes

abbrev pub marks_appended : Tables → ℕ → ℕ → List ℕ → List ℕ
marks_appended t f n marks = marks_behind (count_in (chunk_or_blank t.extents (f, n))) (marks_or_none t.stale (f, n)) marks

-- the tables once a chunk has these extents, with these marks, behind those that it has
abbrev pub with_appended : Tables → ℕ → ℕ → List Homes → List ℕ → Tables
with_appended t f n homes marks = record t { extents = with_chunk t.extents (f, n) (homes_appended t f n homes); stale = with_marks t.stale (f, n) (marks_appended t f n marks) }

-- what the extents, and their marks, must be that a chunk gets
pub record MayAppend (c : Catalogued) (f n : ℕ) (homes : List Homes) (marks : List ℕ) : Type 0 where
  -- the number of the chunk has room in a key, and the chunk has room for them
  pub number : n + 1 < 2 ^ 32
  pub room : count_in (chunk_or_blank c.tables.extents (f, n)) + length homes ≤ chunk_len
  -- all extents before them are there, and each of them has a home
  pub behind : IsTrue (follows c.tables.extents f n)
  pub there : IsTrue (list_all has_home homes)
  -- the file has a head, below whose copies the homes are, or is the pending operation's
  pub owned : IsTrue (is_file_number c.tables.files f || is_pending f c.tables.operations.pending)
  pub copies : IsTrue (are_within_head (head_at c.tables.files f) homes)
  -- the homes of one extent lie on different disks
  pub apart : IsTrue (list_all are_on_disks homes)
  -- taken one after the other, each is a run of free user units as long as its extent
  pub free : IsTrue (is_some (after_homes c.units (placed_extents c.shape.step f (first_new c.tables f n) homes)))
  -- each of them has its marks, and each mark is that of a copy that it has
  pub marked : length marks ≡ length homes
  pub three : IsTrue (list_all (λ m. nat_lt m 8) marks)
  pub stale : IsTrue (list_all are_marks_of (zip marks homes))

-- the units of three homes are numbers of 32 bits
abbrev pub is_small : Option Home → Bool
is_small None = true
is_small (Some h) = nat_lt h.unit (2 ^ 32)

abbrev pub are_small : Homes → Bool
are_small homes = (length homes == 3) && list_all is_small homes

-- the chunk isn't there, and fewer blocks are free than it takes with its marks
pub record LacksBlocks (c : Catalogued) (f n free : ℕ) : Type 0 where
  pub new : chunk_at c.tables.extents (f, n) ≡ None
  pub free_is : free + blocks_used c.tables + 2 ≡ c.shape.dir_blocks
  pub few : free < 2

-- where the chunk isn't there, two blocks are free for it and its marks
pub record HasChunkRoom (c : Catalogued) (f n : ℕ) : Type 0 where
  pub room : chunk_at c.tables.extents (f, n) ≡ None → blocks_used c.tables + 4 ≤ c.shape.dir_blocks

-- want of memory, or of two blocks
abbrev pub IsChunkRefusal : Catalogued → ℕ → ℕ → Refusal → Type 0
IsChunkRefusal c f n refusal = (refusal ≡ cause.NoMemory) ⊎ ((free : ℕ) × (refusal ≡ cause.DirectoryFull 2 free) × LacksBlocks c f n free)

-- ---- extents that go

-- the tables without a chunk and its marks
abbrev pub with_released : Tables → ℕ → ℕ → Tables
with_released t f n = record t { extents = without_chunk t.extents (f, n); stale = without_marks t.stale (f, n) }

-- the tables in which a chunk has neither extents nor marks from a place on
abbrev pub with_fewer : Tables → ℕ → ℕ → ℕ → Tables
with_fewer t f n kept = record t {
  extents = with_chunk t.extents (f, n) (cut_to kept (chunk_or_blank t.extents (f, n)));
  stale = with_marks t.stale (f, n) (marks_to kept (marks_or_none t.stale (f, n)));
}

-- the tables without the extents of a chunk from a place on, and without their marks: where none is kept the chunk and its marks go
abbrev pub with_cut : Tables → ℕ → ℕ → ℕ → Tables
with_cut t f n kept = if kept == 0 then with_released t f n else with_fewer t f n kept

-- the file, where it has a head, has by its size no extent of the chunk from this place on
abbrev pub IsUndue : Shape → Option FileHead → ℕ → ℕ → Type 0
IsUndue s None n kept = Unit {0}
IsUndue s (Some head) n kept = (i : ℕ) → i / chunk_len ≡ n → kept ≤ i % chunk_len → head_has_extent s head i ≡ false

-- the chunk is there, its file has no extent behind it, and by its size none of those that go
pub record MayCut (s : Shape) (t : Tables) (f n kept : ℕ) : Type 0 where
  pub there : IsTrue (is_some (chunk_at t.extents (f, n)))
  pub few : kept ≤ chunk_len
  pub last : has_extent t.extents f ((n + 1) * chunk_len) ≡ false
  pub undue : IsUndue s (head_at t.files f) n kept

-- ---- moves as asm_placement speaks of them

-- The items after a committed move of a copy are those of the tables that the plan leads to.
abbrev pub MovesItems : Type 0
MovesItems = (c : Catalogued) (f i copy : ℕ) (h : Home) (items : List Item) → IsCatalog c → MayMove c f i copy h → h.unit < 2 ^ 32 → AreItemsOf c.tables items → AreItemsOf (with_move c.tables f i copy h) (with_home f i copy h items)

-- The items after a copy that is there was written anew in place are those of the tables that the plan which clears its mark leads to.
abbrev pub ClearsItems : Type 0
ClearsItems =
    (c : Catalogued) (f i copy : ℕ) (items : List Item) → IsCatalog c → IsTrue (is_some (home_at c.tables f i copy)) → AreItemsOf c.tables items
    → AreItemsOf (with_marks_changed c.tables f i 0 (2 ^ copy)) (with_current f i copy items)

-- A plan that moves the copy to the home that it has leads to the same tables.
abbrev pub StaysInPlace : Type 0
StaysInPlace = (c : Catalogued) (f i copy : ℕ) (h : Home) → IsCatalog c → home_at c.tables f i copy ≡ Some h → with_move c.tables f i copy h ≡ with_marks_changed c.tables f i 0 (2 ^ copy)
