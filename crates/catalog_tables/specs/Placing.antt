-- The units of the disks, from the homes that the tables name.
use Rattle.std.specs.Prelude.{◌≡◌, ℕ, suc, ◌*◌, ◌<◌, ◌==◌, Bool, true, List, find, [], ◌∷◌, map, flat_map, slice_set, Option, Some, None, if◌then◌else◌}
use Rattle.std.specs.List.{list_all, range_with_len, slice_get}
use Rattle.std.specs.Option.{option_and_then}
use Rattle.asm_group.specs.Shape.{Shape}
use Rattle.asm_formats.specs.Regions.{reserved_units}
use Rattle.asm_formats.specs.Sets.{most_disks}
use Rattle.asm_formats.specs.Status as status
use Rattle.asm_formats.specs.Items.{Home, chunk_len}
use Rattle.partnership.specs.asm_placement.Placed.{Placed, placed_extents}
use Rattle.page_map.specs.allocator.UnitMaps.{IsUnusedFrom, UnitMap, is_free, with_unit_count, unused, with_run}
use Rattle.extent_map.specs.Extents.{Chunked}
use Rattle.asm_base.specs.Chunks.{Chunk}
use Rattle.catalog_tables.specs.Tables.{Tables}

-- ---- one home after the other

-- the n units from at on are free
abbrev pub is_run_free : UnitMap → ℕ → ℕ → Bool
is_run_free m at n = list_all (is_free m) (range_with_len at n)

-- the map with a run used, where it is free
abbrev pub with_used_run : Option UnitMap → ℕ → ℕ → Option UnitMap
with_used_run None at n = None
with_used_run (Some m) at n = if is_run_free m at n then Some (with_run m at n true) else None

-- the maps with the units of a home used, where they are free user units of its disk
abbrev pub home_taken : List UnitMap → Home → ℕ → Option (List UnitMap)
home_taken ms h len = option_and_then (λ m. Some (slice_set ms h.disk m)) (with_used_run (slice_get ms h.disk) h.unit len)

-- the same of a home that may be absent
abbrev pub home_placed : List UnitMap → Option Home → ℕ → Option (List UnitMap)
home_placed ms None len = Some ms
home_placed ms (Some h) len = home_taken ms h len

-- the same of homes one after the other
unfoldable pub after_homes : List UnitMap → List Placed → Option (List UnitMap)
after_homes ms [] = Some ms
after_homes ms (p ∷ ps) = option_and_then (λ next. after_homes next ps) (home_taken ms p.home p.len)

-- ---- the homes of chunks

-- the homes of a chunk, each with its extent
abbrev pub homes_of : ℕ → Chunked → List Placed
homes_of step x = placed_extents step x.0.0 (x.0.1 * chunk_len) x.1

-- the maps with the units of all homes of the chunks used
unfoldable pub after_chunks : ℕ → List UnitMap → List Chunked → Option (List UnitMap)
after_chunks step ms [] = Some ms
after_chunks step ms (x ∷ xs) = option_and_then (λ next. after_chunks step next xs) (after_homes ms (homes_of step x))

-- the first chunk that has a home whose units aren't free
unfoldable pub first_misplaced : ℕ → List UnitMap → List Chunked → Option Chunk
first_misplaced step ms [] = None
first_misplaced step ms (x ∷ xs) = from (λ next. first_misplaced step next xs) (after_homes ms (homes_of step x))
  where
    from : (List UnitMap → Option Chunk) → Option (List UnitMap) → Option Chunk
    from go None = Some x.0
    from go (Some next) = go next

-- ---- the disks

-- units of a disk by its entry, and none where it has no entry
abbrev pub entry_units : Option status.Entry → ℕ
entry_units None = 0
entry_units (Some e) = e.units

abbrev pub disk_units : List status.Entry → ℕ → ℕ
disk_units entries d = entry_units (find (λ (e : status.Entry). e.number == d) entries)

-- the entries give each disk number as many units as others do
abbrev pub HaveSameUnits : List status.Entry → List status.Entry → Type 0
HaveSameUnits one other = (d : ℕ) → d < most_disks → disk_units one d ≡ disk_units other d

-- units of a disk by its map, and none where there is no map
abbrev pub map_units : Option UnitMap → ℕ
map_units None = 0
map_units (Some m) = m.units

-- the maps have as many units as the entries give each disk number
unfoldable pub have_units : List UnitMap → List status.Entry → Bool
have_units ms entries = list_all (λ d. map_units (slice_get ms d) == disk_units entries d) (range_with_len 0 most_disks)

-- the maps of all disk numbers, with no user unit used
abbrev pub unused_maps : Shape → List status.Entry → List UnitMap
unused_maps s entries = map (λ d. unused (reserved_units s) (disk_units entries d)) (range_with_len 0 most_disks)

-- The used units are, from scratch, those of the homes that the tables name: none is used twice, and all are user units of the entries.
abbrev pub HasUnits : Shape → List status.Entry → Tables → List UnitMap → Type 0
HasUnits s entries t ms = after_chunks s.step (unused_maps s entries) t.extents ≡ Some ms

-- Units by some entries are those by others that give each disk number as many units.
abbrev pub UnitsStay : Type 0
UnitsStay = (s : Shape) (one other : List status.Entry) (t : Tables) (ms : List UnitMap)
    → HaveSameUnits one other → HasUnits s one t ms → HasUnits s other t ms

-- ---- other units

-- each map with as many units as the entries give its disk, the first of which has this number
unfoldable pub resized_from : ℕ → List status.Entry → List UnitMap → List UnitMap
resized_from d entries [] = []
resized_from d entries (m ∷ ms) = with_unit_count m (disk_units entries d) ∷ resized_from (suc d) entries ms

abbrev pub resized_maps : List status.Entry → List UnitMap → List UnitMap
resized_maps entries ms = resized_from 0 entries ms

-- the map of a disk with this number and other units, where its units change
abbrev pub changed_map : ℕ → ℕ → Option UnitMap → List (ℕ × UnitMap)
changed_map d units None = []
changed_map d units (Some m) = if m.units == units then [] else (d, with_unit_count m units) ∷ []

-- the maps of the disks alone whose units the entries change
unfoldable pub changed_maps : List UnitMap → List status.Entry → List (ℕ × UnitMap)
changed_maps ms entries = flat_map (λ d. changed_map d (disk_units entries d) (slice_get ms d)) (range_with_len 0 most_disks)

-- maps with others of some disks in their places
unfoldable pub put_maps : List UnitMap → List (ℕ × UnitMap) → List UnitMap
put_maps ms [] = ms
put_maps ms (x ∷ xs) = put_maps (slice_set ms x.0 x.1) xs

-- the maps of disks with as many units as the entries give stay
abbrev pub OtherMapsStay : List status.Entry → List UnitMap → List UnitMap → Type 0
OtherMapsStay entries old new = (d : ℕ) → map_units (slice_get old d) ≡ disk_units entries d → slice_get new d ≡ slice_get old d

-- no unit from one on is used
abbrev pub IsFit : Option UnitMap → ℕ → Type 0
IsFit None units = Unit {0}
IsFit (Some m) units = IsUnusedFrom m units

-- no unit that the entries lack is used
abbrev pub AreFit : List UnitMap → List status.Entry → Type 0
AreFit ms entries = (d : ℕ) → d < most_disks → IsFit (slice_get ms d) (disk_units entries d)

-- Where no unit is used that other entries lack, the maps with their units are those by them.
abbrev pub UnitsResize : Type 0
UnitsResize = (s : Shape) (one other : List status.Entry) (t : Tables) (ms : List UnitMap)
    → HasUnits s one t ms → AreFit ms other → HasUnits s other t (resized_maps other ms)

-- Units by other entries are those by some with the other units, none of which is used that the others lack.
abbrev pub UnitsAreResized : Type 0
UnitsAreResized = (s : Shape) (one other : List status.Entry) (t : Tables) (ms next : List UnitMap)
    → HasUnits s one t ms → HasUnits s other t next → AreFit ms other × (next ≡ resized_maps other ms)
