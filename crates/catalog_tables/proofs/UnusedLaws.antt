-- The units of disks none of which are used.
use Rattle.std.proofs.Common.{◌≡◌, ℕ, ◌<◌, ◌≤◌, ◌+◌, ◌-◌, ◌*◌, ◌^◌, Bool, true, false, eqb, leb, ltb, List, [], ◌∷◌, ◌++◌, map, refl, sym, ap, ◌∙◌, arith}
use Rattle.std.specs.Prelude.{◌/◌}
use Rattle.std.specs.List.{list_all, range_with_len}
use Rattle.std.proofs.lemmas.Bool.{and_parts, leb-true}
use Rattle.std.proofs.Math.Nat.{div-le_self}
use Rattle.std.proofs.lemmas.List.FromFn.{map-range_with_len_more}
use Rattle.asm_group.specs.Shape.{Shape, is_shape, is_unit_size, is_step, is_sector, is_dir_blocks}
use Rattle.asm_formats.specs.Bytes.{block_size}
use Rattle.asm_formats.specs.Regions.{most_units, region_end, reserved_units}
use Rattle.asm_formats.specs.Sets.{most_disks}
use Rattle.asm_formats.specs.Status.{Entry, is_entry}
use Rattle.partnership.proofs.asm_placement.Units.{is_unit}
use Rattle.page_map.specs.allocator.UnitMaps.{UnitMap, unused}
use Rattle.catalog_tables.specs.Placing.{disk_units}

pub few_units : (e : Entry) → is_entry e ≡ true → e.units ≤ 16777216
unfolding is_entry
few_units e ok =
    let a = and_parts (ltb e.number most_disks) _ ok in
    let b = and_parts (ltb e.birth (2 ^ 64)) _ a.1 in
    let c = and_parts (ltb e.failgroup 256) _ b.1 in
    let d = and_parts (leb e.units most_units) _ c.1 in
    leb-true e.units most_units d.0

pub few_found : (es : List Entry) (d : ℕ) → list_all is_entry es ≡ true → disk_units es d ≤ 16777216
few_found [] d all = omega arith
few_found (e ∷ es) d all =
    by (few_units e (and_parts (is_entry e) (list_all is_entry es) all).0) (few_found es d (and_parts (is_entry e) (list_all is_entry es) all).1) (eqb e.number d) refl where
      by : e.units ≤ 16777216 → disk_units es d ≤ 16777216 → (b : Bool) → eqb e.number d ≡ b → disk_units (e ∷ es) d ≤ 16777216
      by here rest true is = rw is here
      by here rest false is = rw is rest

pub one_more : (s : Shape) (es : List Entry) (first n units : ℕ) (ms new : List UnitMap) (m : UnitMap) → ms ≡ map (λ d. unused (reserved_units s) (disk_units es d)) (range_with_len 0 n)
    → first ≡ reserved_units s → units ≡ disk_units es n → m ≡ unused first units → new ≡ ms ++ m ∷ [] → new ≡ map (λ d. unused (reserved_units s) (disk_units es d)) (range_with_len 0 (n + 1))
one_more s es first n units ms new m so_far f u is push =
    let next : m ≡ unused (reserved_units s) (disk_units es n) = is ∙ ap (λ (x : ℕ). unused x units) f ∙ ap (λ (x : ℕ). unused (reserved_units s) x) u in
    push ∙ ap (λ (xs : List UnitMap). xs ++ m ∷ []) so_far ∙ ap (λ (x : UnitMap). map (λ d. unused (reserved_units s) (disk_units es d)) (range_with_len 0 n) ++ x ∷ []) next
    ∙ sym (map-range_with_len_more (λ d. unused (reserved_units s) (disk_units es d)) 0 n n (omega arith))

-- the reserved units are few
pub reserved_few : (s : Shape) → is_shape s ≡ true → (0 < s.au) × (s.au ≤ 67108864) × (s.dir_blocks ≤ 16384)
unfolding is_shape
reserved_few s e =
    let p = and_parts (is_unit_size s.au) _ e in
    let q = and_parts (is_step s.step) _ p.1 in
    let r = and_parts (is_sector s.sector s.au) (is_dir_blocks s.dir_blocks) q.1 in
    let u = is_unit s.au p.0 in
    (omega (arith, u.least), u.most, leb-true s.dir_blocks 16384 (and_parts (leb 128 s.dir_blocks) (leb s.dir_blocks 16384) r.1).1)

few_of : (n au : ℕ) → n < 4294967296 → n / au < 4294967296
few_of n au few = omega (arith, few, div-le_self n au)

pub reserved_fits : (s : Shape) → is_shape s ≡ true → reserved_units s < 4294967296
unfolding reserved_units
reserved_fits s e =
    let f = reserved_few s e in
    few_of (region_end s.dir_blocks * block_size + (s.au - 1)) s.au (omega (arith, f.0, f.1, f.2))
