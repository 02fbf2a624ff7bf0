-- How many copies a file has, and how many extents.
use Rattle.std.proofs.Common.{◌≡◌, ℕ, zero, suc, ◌+◌, ◌-◌, ◌*◌, ◌<◌, ◌≤◌, ◌^◌, Bool, true, false, cond, eqb, leb, ltb, get_or, length, List, [], ◌∷◌, ◌++◌, map, Option, Some, None, refl, sym, ap, subst, ◌∙◌, arith}
use Rattle.std.specs.Prelude.{◌&&◌, ◌||◌, slice_set}
use Rattle.std.specs.List.{AllByRecursion, list_all, range_with_len, slice_get}
use Rattle.std.specs.Option.{is_some}
use Rattle.std.specs.Ordering.{nat_cmp}
use Rattle.std.proofs.lemmas.Cmp.{nat_cmp_total}
use Rattle.std.proofs.lemmas.Bool.{and_parts, eqb-true, leb-true}
use Rattle.std.proofs.lemmas.List.{length-replicate}
use Rattle.std.proofs.lemmas.List.Sums.{count_by-le-length}
use Rattle.asm_group.specs.Shape.{Shape}
use Rattle.asm_formats.specs.Among.{IsAmong}
use Rattle.asm_formats.specs.Items.{FileHead, Homes, chunk_item, file_item, is_item, is_homes}
use Rattle.asm_formats.specs.Regions.{reserved_units}
use Rattle.asm_formats.specs.Status.{Entry, is_entry}
use Rattle.asm_placement.specs.Layout.{units_of}
use Rattle.asm_placement.specs.Placed.{Placed, placed_copies, placed_extents}
use Rattle.plan_records.specs.allocator.UnitMaps.{UnitMap, unused, used_of, with_run}
use Rattle.asm_base.proofs.Exact.{bind_some, some_is}
use Rattle.plan_records.specs.file_directory.Files.{NumberedFile, IsFileTable, head_at, item_of_file_head}
use Rattle.plan_records.specs.extent_map.Extents.{Chunked, has_home, has_no_gap, is_behind, is_blank, is_full, full_chunk, stand_first, stands_at}
use Rattle.asm_base.specs.Chunks.{Chunk}
use Rattle.plan_records.specs.extent_map.Extents as extents
use Rattle.plan_records.specs.catalog_tables.Tables.{AreTables, Tables}
use Rattle.plan_records.specs.catalog_tables.Placing.{HasUnits, after_chunks, after_homes, disk_units, homes_of, unused_maps}
use Rattle.plan_records.proofs.catalog_tables.PlacingLaws.{units_some}
use Rattle.plan_records.proofs.catalog_tables.TableItems.{each_of, found_is, numbers_exact}
use Rattle.plan_records.proofs.catalog_tables.HomeUnits.{IsTaken, taken_is, takes}
use Rattle.plan_records.proofs.catalog_tables.UnusedLaws.{few_found}

-- ---- copies

redundancy : (f : ℕ) (h : FileHead) → is_item (file_item f h) ≡ true → h.copies ≤ 3
unfolding is_item
redundancy f h ok =
    let p = and_parts (ltb f (2 ^ 32)) _ ok in
    let q = and_parts (leb 1 h.copies && leb h.copies 3) _ p.1 in
    leb-true h.copies 3 (and_parts (leb 1 h.copies) (leb h.copies 3) q.0).1

pub few_copies : (fs : List NumberedFile) (f : ℕ) {v h : FileHead} → v ≡ h → IsFileTable fs → Some h ≡ head_at fs f → v.copies ≤ 3
few_copies fs f {v} {h} same table e =
    subst (λ (g : FileHead). g.copies ≤ 3) (sym same) (redundancy f h (each_of (λ (x : NumberedFile). is_item (item_of_file_head x) ≡ true) fs (f, h) table.1 (found_is nat_cmp nat_cmp_total numbers_exact f fs h (sym e))))

-- ---- units of all maps

abbrev units_in_all : List UnitMap → ℕ
units_in_all [] = 0
units_in_all (m ∷ ms) = m.units + units_in_all ms

abbrev used_in_all : List UnitMap → ℕ
used_in_all [] = 0
used_in_all (m ∷ ms) = used_of m + used_in_all ms

abbrev AreWhole : List UnitMap → Type 0
AreWhole ms = AllByRecursion (λ (m : UnitMap). length m.used ≡ m.units) ms

few_in_all : (ms : List UnitMap) → AreWhole ms → used_in_all ms ≤ units_in_all ms
few_in_all [] whole = omega arith
few_in_all (m ∷ ms) whole = omega (arith, count_by-le-length (λ (b : Bool). b) m.used, whole.0, few_in_all ms whole.1)

whole_at : (ms : List UnitMap) (d : ℕ) (m : UnitMap) → AreWhole ms → slice_get ms d ≡ Some m → length m.used ≡ m.units
whole_at [] d m whole e = absurd cc
whole_at (x ∷ ms) zero m whole e = subst (λ (y : UnitMap). length y.used ≡ y.units) (some_is x m e) whole.0
whole_at (x ∷ ms) (suc d) m whole e = whole_at ms d m whole.1 e

-- what a run that is taken makes of the sums
record IsMore (ms next : List UnitMap) (n : ℕ) : Type 0 where
  whole : AreWhole next
  units : units_in_all next ≡ units_in_all ms
  used : used_in_all next ≡ used_in_all ms + n

set_more : (ms : List UnitMap) (d at n : ℕ) (m new : UnitMap) → AreWhole ms → slice_get ms d ≡ Some m → IsTaken m new at n → IsMore ms (slice_set ms d new) n
set_more [] d at n m new whole e one = absurd cc
set_more (x ∷ ms) zero at n m new whole e one =
    let same : x ≡ m = some_is x m e in
    record {
      whole = (one.whole, whole.1);
      units = ap (λ (k : ℕ). k + units_in_all ms) (one.units ∙ ap (λ (y : UnitMap). y.units) (sym same));
      used = omega (arith, one.used, ap used_of same);
    }
set_more (x ∷ ms) (suc d) at n m new whole e one =
    let rest = set_more ms d at n m new whole.1 e one in
    record { whole = (whole.0, rest.whole); units = ap (λ (k : ℕ). x.units + k) rest.units; used = omega (arith, rest.used) }

abbrev weight : List Placed → ℕ
weight [] = 0
weight (p ∷ ps) = p.len + weight ps

then_more : (ms mid next : List UnitMap) (n k : ℕ) → IsMore ms mid n → IsMore mid next k → IsMore ms next (n + k)
then_more ms mid next n k one two = record { whole = two.whole; units = two.units ∙ one.units; used = omega (arith, one.used, two.used) }

homes_more : (ps : List Placed) (ms next : List UnitMap) → AreWhole ms → after_homes ms ps ≡ Some next → IsMore ms next (weight ps)
unfolding after_homes
homes_more [] ms next whole e =
    subst (λ (xs : List UnitMap). IsMore ms xs 0) (some_is ms next e) (record { whole = whole; units = refl; used = omega arith })
homes_more (p ∷ ps) ms next whole e =
    let b = bind_some (λ (mid : List UnitMap). after_homes mid ps) _ next e in
    let t = takes ms b.0 p.home p.len b.1 in
    let one = set_more ms p.home.disk p.home.unit p.len t.map_before (with_run t.map_before p.home.unit p.len true) whole t.there (taken_is t.map_before p.home.unit p.len (whole_at ms p.home.disk t.map_before whole t.there) t.free) in
    let first : IsMore ms b.0 p.len = subst (λ (xs : List UnitMap). IsMore ms xs p.len) (sym t.put) one in
    then_more ms b.0 next p.len (weight ps) first (homes_more ps b.0 next first.whole b.2)

-- ---- an extent that is there has a unit at least

weight_append : (ps qs : List Placed) → weight (ps ++ qs) ≡ weight ps + weight qs
weight_append [] qs = omega arith
weight_append (p ∷ ps) qs = omega (arith, weight_append ps qs)

one_copy : (f i len k : ℕ) (hs : Homes) → is_some (get_or hs k None) ≡ true → len ≤ weight (placed_copies f i len hs)
one_copy f i len k [] e = absurd cc
one_copy f i len zero (None ∷ hs) e = absurd cc
one_copy f i len zero (Some h ∷ hs) e = omega arith
one_copy f i len (suc k) (None ∷ hs) e = one_copy f i len k hs e
one_copy f i len (suc k) (Some h ∷ hs) e = omega arith

one_extent : (f i len : ℕ) (hs : Homes) → 0 < len → has_home hs ≡ true → 1 ≤ weight (placed_copies f i len hs)
one_extent f i len hs some e = by (is_some (get_or hs 0 None)) (is_some (get_or hs 1 None)) refl refl e where
  by : (a b : Bool) → is_some (get_or hs 0 None) ≡ a → is_some (get_or hs 1 None) ≡ b → (a || (b || is_some (get_or hs 2 None))) ≡ true → 1 ≤ weight (placed_copies f i len hs)
  by true b is there e = omega (arith, some, one_copy f i len 0 hs is)
  by false true is there e = omega (arith, some, one_copy f i len 1 hs there)
  by false false is there e = omega (arith, some, one_copy f i len 2 hs e)

full_extents : (step f i : ℕ) (xs : List Homes) → is_full xs ≡ true → length xs ≤ weight (placed_extents step f i xs)
full_extents step f i [] full = omega arith
full_extents step f i (hs ∷ xs) full =
    let p = and_parts (has_home hs) (is_full xs) full in
    let one = one_extent f i (units_of step i) hs (units_some step i (units_of step i) refl) p.0 in
    omega (arith, one, full_extents step f (suc i) xs p.1, weight_append (placed_copies f i (units_of step i) hs) (placed_extents step f (suc i) xs))

-- ---- chunks without a gap

-- the chunk before, where it is full, and the ones before that have their units
abbrev Paid : Option Chunk → ℕ → Type 0
Paid None used = Unit {0}
Paid (Some at) used = (at.1 + 1) * 256 ≤ used

-- the extents of the chunk, where there are some, have numbers up to this one
abbrev IsLow : ℕ → Chunked → Type 0
IsLow most x = is_blank x.1 ≡ false → x.0.1 * 256 ≤ most

low_chunk : (past : Option Chunk) (x : Chunked) (used : ℕ) → stands_at past x ≡ true → Paid past used → IsLow used x
low_chunk past x used stands paid some =
    let p = and_parts (stand_first false x.1) (is_blank x.1 || (eqb x.0.1 0 || is_behind past x.0)) stands in
    by (is_blank x.1) some (eqb x.0.1 0) refl past paid p.1
  where
    by : (blank : Bool) → blank ≡ false → (first : Bool) → eqb x.0.1 0 ≡ first → (before : Option Chunk) → Paid before used → (blank || (first || is_behind before x.0)) ≡ true → x.0.1 * 256 ≤ used
    by true e first is before paid ok = absurd cc
    by false e true is before paid ok = omega (arith, eqb-true x.0.1 0 is)
    by false e false is None paid ok = absurd cc
    by false e false is (Some at) paid ok = omega (arith, paid, eqb-true (at.1 + 1) x.0.1 (and_parts (eqb at.0 x.0.0) (eqb (at.1 + 1) x.0.1) ok).1)

paid_next : (past : Option Chunk) (x : Chunked) (used more : ℕ) → length x.1 ≡ 256 → stands_at past x ≡ true → Paid past used → (is_full x.1 ≡ true → 256 ≤ more) → Paid (full_chunk x) (used + more)
paid_next past x used more size stands paid full = by (is_full x.1) refl where
  first_full : (xs : List Homes) → length xs ≡ 256 → is_full xs ≡ true → is_blank xs ≡ false
  first_full [] long e = absurd (omega (arith, long))
  first_full (h ∷ xs) long e = rw (and_parts (has_home h) (is_full xs) e).0 refl

  by : (b : Bool) → is_full x.1 ≡ b → Paid (cond b (Some x.0) None) (used + more)
  by false is = tt
  by true is = omega (arith, low_chunk past x used stands paid (first_full x.1 size is), full is)

either_way : (b y : Bool) → cond b y false ≡ true → (b ≡ true) × (y ≡ true)
either_way true y e = (refl, e)
either_way false y e = absurd cc

low_later : (xs : List Chunked) (n most : ℕ) → n ≤ most → AllByRecursion (IsLow n) xs → AllByRecursion (IsLow most) xs
low_later [] n most le all = tt
low_later (x ∷ xs) n most le all = ((λ some. omega (arith, le, all.0 some)), low_later xs n most le all.1)

chunk_size : (f c : ℕ) (homes : List Homes) → is_item (chunk_item f c homes) ≡ true → length homes ≡ 256
unfolding is_item
chunk_size f c homes ok =
    let p = and_parts (ltb f (2 ^ 32)) _ ok in
    let q = and_parts (ltb (c + 1) (2 ^ 32)) _ p.1 in
    eqb-true (length homes) 256 (and_parts (eqb (length homes) 256) (list_all is_homes homes) q.1).0

low_chunks : (step : ℕ) (xs : List Chunked) (past : Option Chunk) (ms next : List UnitMap) → AllByRecursion (λ (x : Chunked). is_item (extents.item_of_chunk x) ≡ true) xs → has_no_gap past xs ≡ true → AreWhole ms → Paid past (used_in_all ms)
    → after_chunks step ms xs ≡ Some next → AllByRecursion (IsLow (used_in_all next)) xs × IsMore ms next (used_in_all next - used_in_all ms) × (used_in_all ms ≤ used_in_all next)
unfolding after_chunks
low_chunks step [] past ms next items gap whole paid e =
    let same = some_is ms next e in
    let used = ap used_in_all same in
    (tt, subst (λ (ys : List UnitMap). IsMore ms ys (used_in_all ys - used_in_all ms)) same (record { whole = whole; units = refl; used = omega arith }), omega (arith, used))
low_chunks step (x ∷ xs) past ms next items gap whole paid e =
    let g = either_way (stands_at past x) (has_no_gap (full_chunk x) xs) gap in
    let b = bind_some (λ (mid : List UnitMap). after_chunks step mid xs) (after_homes ms (homes_of step x)) next e in
    let more = homes_more (homes_of step x) ms b.0 whole b.1 in
    let size = chunk_size x.0.0 x.0.1 x.1 items.0 in
    let paid_then : Paid (full_chunk x) (used_in_all b.0) = subst (λ (n : ℕ). Paid (full_chunk x) n) (sym more.used)
    (paid_next past x (used_in_all ms) (weight (homes_of step x)) size g.0 paid (λ full. omega (arith, size, full_extents step x.0.0 (x.0.1 * 256) x.1 full))) in
    let rest = low_chunks step xs (full_chunk x) b.0 next items.1 g.1 more.whole paid_then b.2 in (
      ((λ some. omega (arith, rest.2, more.used, low_chunk past x (used_in_all ms) g.0 paid some)), rest.0),
      record { whole = rest.1.whole; units = rest.1.units ∙ more.units; used = omega (arith, rest.2, more.used) },
      omega (arith, rest.2, more.used),
    )

-- ---- disks of which no unit is used

whole_unused : (s : Shape) (es : List Entry) (a n : ℕ) → AreWhole (map (λ d. unused (reserved_units s) (disk_units es d)) (range_with_len a n))
whole_unused s es a zero = tt
whole_unused s es a (suc n) = (length-replicate (disk_units es a) false, whole_unused s es (a + 1) n)

few_unused : (s : Shape) (es : List Entry) (a n : ℕ) → list_all is_entry es ≡ true → units_in_all (map (λ d. unused (reserved_units s) (disk_units es d)) (range_with_len a n)) ≤ n * 16777216
few_unused s es a zero ok = omega arith
few_unused s es a (suc n) ok = omega (arith, few_found es a ok, few_unused s es (a + 1) n ok)

-- Extents that are there are few, since each has units of its own.
pub few_extents : (s : Shape) (es : List Entry) (t : Tables) (ms : List UnitMap) → AreTables t → list_all is_entry es ≡ true → HasUnits s es t ms → (x : Chunked) → IsAmong t.extents x → is_blank x.1 ≡ false → x.0.1 * 256 ≤ 1073741824
few_extents s es t ms a ok has x h some =
    let start = whole_unused s es 0 64 in
    let all = low_chunks s.step t.extents None (unused_maps s es) ms a.extents.0.1 a.extents.1 start tt has in
    let few = few_in_all ms all.1.whole in
    let low = each_of (IsLow (used_in_all ms)) t.extents x all.0 h some in
    omega (arith, low, few, all.1.units, few_unused s es 0 64 ok)
