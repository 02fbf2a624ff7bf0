-- Entries that give each disk as many units as its map has.
use Rattle.std.proofs.Common.{◌≡◌, ℕ, ◌<◌, Bool, true, false, eqb, List, Some, refl, sym, ap, ◌∙◌, arith, inl, inr}
use Rattle.std.specs.Prelude.{flat_map}
use Rattle.std.specs.List.{slice_get}
use Rattle.std.proofs.lemmas.Bool.{eqb-true, eq-eqb}
use Rattle.std.proofs.lemmas.List.{length-replicate}
use Rattle.asm_group.specs.Shape.{Shape}
use Rattle.asm_formats.specs.Regions.{reserved_units}
use Rattle.asm_formats.specs.Sets.{most_disks}
use Rattle.asm_formats.specs.Status.{Entry}
use Rattle.asm_formats.proofs.Among.{map_range_same}
use Rattle.page_map.specs.allocator.UnitMaps.{UnitMap, unused}
use Rattle.catalog_tables.specs.Tables.{Tables}
use Rattle.catalog_tables.specs.Placing.{HasUnits, HaveSameUnits, after_chunks, after_homes, disk_units, have_units, homes_of, map_units, unused_maps}
use Rattle.catalog_tables.proofs.EntryLaws.{either}
use Rattle.catalog_tables.proofs.HomeUnits.{behind, chunks_are_homes, unused_at}
use Rattle.catalog_tables.proofs.PlacingLaws.{all_in, from_all}

abbrev fits : List UnitMap → List Entry → ℕ → Bool
fits ms es d = eqb (map_units (slice_get ms d)) (disk_units es d)

-- the test, one number after the other
pub all_have : (ms : List UnitMap) (es : List Entry) (n : ℕ) → ((d : ℕ) → d < n → map_units (slice_get ms d) ≡ disk_units es d) → n ≡ most_disks → have_units ms es ≡ true
unfolding have_units
all_have ms es n each end = from_all (fits ms es) 0 most_disks (λ d low high. eq-eqb (map_units (slice_get ms d)) (disk_units es d) (each d (omega (arith, high, end))))

pub one_has : (ms : List UnitMap) (es : List Entry) → have_units ms es ≡ true → (d : ℕ) → d < most_disks → map_units (slice_get ms d) ≡ disk_units es d
unfolding have_units
one_has ms es all d small = eqb-true (map_units (slice_get ms d)) (disk_units es d) (all_in (fits ms es) 0 most_disks all d (omega arith) (omega (arith, small)))

pub one_lacks : (ms : List UnitMap) (es : List Entry) (d : ℕ) → d < most_disks → (map_units (slice_get ms d) ≡ disk_units es d → ⊥) → have_units ms es ≡ false
one_lacks ms es d small other = elim (either (have_units ms es)) [ inl all ↦ absurd (other (one_has ms es all d small)) | inr not ↦ not ]

-- homes that are taken leave the number of units
pub map_is : (s : Shape) (es : List Entry) (t : Tables) (ms : List UnitMap) → HasUnits s es t ms → (d : ℕ) → d < most_disks → map_units (slice_get ms d) ≡ disk_units es d
map_is s es t ms has d small =
    let after : after_homes (unused_maps s es) (flat_map (homes_of s.step) t.extents) ≡ Some ms = sym (chunks_are_homes s.step t.extents (unused_maps s es)) ∙ has in
    let b = behind (flat_map (homes_of s.step) t.extents) (unused_maps s es) ms d (unused (reserved_units s) (disk_units es d)) (length-replicate (disk_units es d) false) (unused_at s es d small) after in
    ap map_units b.there ∙ b.is.units

-- as many units make the same maps
pub same_maps : (s : Shape) (one other : List Entry) → HaveSameUnits one other → unused_maps s one ≡ unused_maps s other
same_maps s one other same =
    map_range_same (λ d. unused (reserved_units s) (disk_units one d)) (λ d. unused (reserved_units s) (disk_units other d)) 0 most_disks
    (λ d low high. ap (λ (n : ℕ). unused (reserved_units s) n) (same d (omega (arith, high))))

pub units_same : (s : Shape) (one other : List Entry) (t : Tables) (ms : List UnitMap) → HaveSameUnits one other → HasUnits s one t ms → HasUnits s other t ms
units_same s one other t ms same has = ap (λ (first : List UnitMap). after_chunks s.step first t.extents) (sym (same_maps s one other same)) ∙ has

-- maps with as many units as the entries give are those of the entries
pub units_stay : (s : Shape) (es next : List Entry) (t : Tables) (ms : List UnitMap) → HasUnits s es t ms → have_units ms next ≡ true → HasUnits s next t ms
units_stay s es next t ms has as_many = units_same s es next t ms (λ d small. sym (map_is s es t ms has d small) ∙ one_has ms next as_many d small) has

pub as_many : (s : Shape) (es next : List Entry) (t : Tables) (ms : List UnitMap) → HasUnits s es t ms → HaveSameUnits es next → have_units ms next ≡ true
as_many s es next t ms has same = all_have ms next most_disks (λ d small. map_is s es t ms has d small ∙ same d small) refl
