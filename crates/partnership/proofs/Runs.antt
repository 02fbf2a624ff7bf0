-- The lowest run of free units, by a map and by the homes of the records.
use Rattle.std.proofs.Common.{◌≡◌, inl, inr, ℕ, zero, suc, ◌+◌, ◌-◌, ◌*◌, ◌<◌, ◌≤◌, Bool, true, false, ◌&&◌, ◌||◌, List, [], ◌∷◌, ◌++◌, refl, sym, ap, ◌∙◌, subst, Option, Some, None, arith, eqb, leb, ltb}
use Rattle.std.specs.Prelude.{MatchOption}
use Rattle.std.specs.List.{range_with_len, list_all, list_any, find}
use Rattle.std.proofs.lemmas.Bool.{cond_both, and_parts, and_from, not-true, not_from_false, or_parts, or_from, false_from_ne_true, both_ways, cases_eq, cases_lt, leb-true, ltb-true, lt-ltb}
use Rattle.asm_formats.specs.asm_group.Shape.{Shape}
use Rattle.asm_formats.specs.Regions.{reserved_units}
use Rattle.asm_formats.specs.Status.{Entry}
use Rattle.asm_formats.specs.Items.{Item, chunk_item, Homes, chunk_len}
use Rattle.allocator.specs.UnitMaps.{UnitMap, is_free, IsFreeRun, HasNoRun, IsLowestRun}
use Rattle.asm_placement.specs.Layout.{units_of}
use Rattle.asm_placement.specs.Placed.{Placed, placed, placed_copies, placed_extents}
use Rattle.asm_placement.specs.Space.{is_free_run, lowest_run}
use Rattle.partnership.specs.Candidates.{is_free_from, lowest}
use Rattle.partnership.specs.UnitsOf.{AreUnits}

-- ---- searches of a range

find_at : (test : ℕ → Bool) (len a at : ℕ) → a ≤ at → at < a + len → test at ≡ true → ((b : ℕ) → a ≤ b → b < at → test b ≡ false) → find test (range_with_len a len) ≡ Some at
find_at test zero a at low high t before = absurd (omega arith)
find_at test (suc len) a at low high t before = elim (cases_eq a at) [
  | inl same ↦ rw (subst (λ (n : ℕ). test n ≡ true) (sym same) t) (ap (λ (n : ℕ). Some n) same)
  | inr other ↦ rw (before a (omega arith) (omega arith)) (find_at test len (a + 1) at (omega arith) (omega arith) t (λ b ge lt. before b (omega arith) lt))
]

find_none : (test : ℕ → Bool) (len a : ℕ) → ((b : ℕ) → test b ≡ false) → find test (range_with_len a len) ≡ None
find_none test zero a none = refl
find_none test (suc len) a none = rw (none a) (find_none test len (a + 1) none)

find_agree : (f g : ℕ → Bool) (len a : ℕ) → ((k : ℕ) → a ≤ k → k < a + len → f k ≡ g k) → find f (range_with_len a len) ≡ find g (range_with_len a len)
find_agree f g zero a same = refl
find_agree f g (suc len) a same = rw (same a (omega arith) (omega arith), find_agree f g len (a + 1) (λ k low high. same k (omega arith) (omega arith))) refl

all_range : (f : ℕ → Bool) (n a : ℕ) → ((k : ℕ) → a ≤ k → k < a + n → f k ≡ true) → list_all f (range_with_len a n) ≡ true
all_range f zero a h = refl
all_range f (suc n) a h = and_from (f a) (list_all f (range_with_len (a + 1) n)) (h a (omega arith) (omega arith)) (all_range f n (a + 1) (λ k low high. h k (omega arith) (omega arith)))

range_all : (f : ℕ → Bool) (n a : ℕ) → list_all f (range_with_len a n) ≡ true → (k : ℕ) → a ≤ k → k < a + n → f k ≡ true
range_all f zero a h k low high = absurd (omega arith)
range_all f (suc n) a h k low high =
    let parts = and_parts (f a) (list_all f (range_with_len (a + 1) n)) h in
    elim (cases_eq a k) [
      | inl same ↦ subst (λ (j : ℕ). f j ≡ true) same parts.0
      | inr other ↦ range_all f n (a + 1) parts.1 k (omega arith) (omega arith)
    ]

-- ---- what a map says

pub no_run : (m : UnitMap) (n at : ℕ) → (IsFreeRun m at n → ⊥) → is_free_from m n at ≡ false
no_run m n at none = false_from_ne_true (is_free_from m n at) (λ t. none (range_all (is_free m) n at t))

pub run_all : (m : UnitMap) (n at : ℕ) → IsFreeRun m at n → is_free_from m n at ≡ true
run_all m n at run = all_range (is_free m) n at run

free_parts : (a b c : Bool) → (a && b && c) ≡ true → (a ≡ true) × (b ≡ true)
free_parts a b c e = let ab = and_parts (a && b) c e in and_parts a b ab.0

-- the run that was found is the lowest
pub lowest_is : (m : UnitMap) (n : ℕ) (r : Option ℕ) → 0 < n → MatchOption r (HasNoRun m n) (IsLowestRun m n) → r ≡ lowest n m
unfolding lowest
lowest_is m n None some none = sym (find_none (is_free_from m n) (m.units + 1 - (m.first + n)) m.first (λ at. no_run m n at (none at)))
lowest_is m n (Some at) some found =
    let here = free_parts (leb m.first at) (ltb at m.units) _ (found.free at (omega arith) (omega arith)) in
    let last = free_parts (leb m.first (at + n - 1)) (ltb (at + n - 1) m.units) _ (found.free (at + n - 1) (omega arith) (omega arith)) in
    let low : m.first ≤ at = leb-true m.first at here.0 in
    let high : at + n - 1 < m.units = ltb-true (at + n - 1) m.units last.1 in
    sym (find_at (is_free_from m n) (m.units + 1 - (m.first + n)) m.first at low (omega arith) (all_range (is_free m) n at found.free) (λ b ge lt. no_run m n b (found.lowest b lt)))

-- ---- what homes say

abbrev meets : ℕ → ℕ → ℕ → Placed → Bool
meets d n u p = eqb p.home.disk d && ltb p.home.unit (u + n) && ltb u (p.home.unit + p.len)

-- each has units
abbrev AreLong : List Placed → Type 0
AreLong [] = Unit {0}
AreLong (p ∷ ps) = (0 < p.len) × AreLong ps

meets_parts : (d n u : ℕ) (p : Placed) → meets d n u p ≡ true → (eqb p.home.disk d ≡ true) × (p.home.unit < u + n) × (u < p.home.unit + p.len)
meets_parts d n u p e =
    let a = and_parts (eqb p.home.disk d && ltb p.home.unit (u + n)) (ltb u (p.home.unit + p.len)) e in
    let b = and_parts (eqb p.home.disk d) (ltb p.home.unit (u + n)) a.0 in
    (b.0, ltb-true p.home.unit (u + n) b.1, ltb-true u (p.home.unit + p.len) a.1)

meets_from : (d n u : ℕ) (p : Placed) → eqb p.home.disk d ≡ true → p.home.unit < u + n → u < p.home.unit + p.len → meets d n u p ≡ true
meets_from d n u p disk low high = rw (disk, lt-ltb p.home.unit (u + n) low, lt-ltb u (p.home.unit + p.len) high) refl

-- a home that meets none of a run's units doesn't meet the run
none_met : (d n u : ℕ) (p : Placed) → 0 < n → 0 < p.len → ((k : ℕ) → u ≤ k → k < u + n → meets d 1 k p ≡ false) → meets d n u p ≡ false
none_met d n u p some long none = false_from_ne_true (meets d n u p) (λ t.
    let parts = meets_parts d n u p t in
    elim (cases_lt u p.home.unit) [
      | inl below ↦ both_ways (meets d 1 p.home.unit p) (none p.home.unit (omega arith) parts.1) (meets_from d 1 p.home.unit p parts.0 (omega arith) (omega arith))
      | inr from ↦ both_ways (meets d 1 u p) (none u (omega arith) (omega arith)) (meets_from d 1 u p parts.0 (omega arith) parts.2)
    ])

unit_met : (d n u k : ℕ) (p : Placed) → u ≤ k → k < u + n → meets d n u p ≡ false → meets d 1 k p ≡ false
unit_met d n u k p low high none = false_from_ne_true (meets d 1 k p) (λ t.
    let parts = meets_parts d 1 k p t in
    let low_unit : p.home.unit < k + 1 = parts.1 in
    let high_unit : k < p.home.unit + p.len = parts.2 in
    both_ways (meets d n u p) none (meets_from d n u p parts.0 (omega arith) (omega arith)))

run_from_units : (d n u : ℕ) (ps : List Placed) → 0 < n → AreLong ps → ((k : ℕ) → u ≤ k → k < u + n → is_free_run ps d 1 k ≡ true) → is_free_run ps d n u ≡ true
run_from_units d n u [] some long free = refl
run_from_units d n u (p ∷ ps) some long free =
    let apart = λ (k : ℕ) (low : u ≤ k) (high : k < u + n). or_parts (meets d 1 k p) (list_any (meets d 1 k) ps) (not-true (meets d 1 k p || list_any (meets d 1 k) ps) (free k low high)) in
    let rest : is_free_run ps d n u ≡ true = run_from_units d n u ps some long.1 (λ k low high. not_from_false (list_any (meets d 1 k) ps) (apart k low high).1) in
    not_from_false (meets d n u p || list_any (meets d n u) ps) (or_from (meets d n u p) (list_any (meets d n u) ps) (none_met d n u p some long.0 (λ k low high. (apart k low high).0)) (not-true (list_any (meets d n u) ps) rest))

units_from_run : (d n u : ℕ) (ps : List Placed) → is_free_run ps d n u ≡ true → (k : ℕ) → u ≤ k → k < u + n → is_free_run ps d 1 k ≡ true
units_from_run d n u [] free k low high = refl
units_from_run d n u (p ∷ ps) free k low high =
    let parts = or_parts (meets d n u p) (list_any (meets d n u) ps) (not-true (meets d n u p || list_any (meets d n u) ps) free) in
    let rest : is_free_run ps d 1 k ≡ true = units_from_run d n u ps (not_from_false (list_any (meets d n u) ps) parts.1) k low high in
    not_from_false (meets d 1 k p || list_any (meets d 1 k) ps) (or_from (meets d 1 k p) (list_any (meets d 1 k) ps) (unit_met d n u k p low high parts.0) (not-true (list_any (meets d 1 k) ps) rest))

same_tests : (a b : Bool) → (a ≡ true → b ≡ true) → (b ≡ true → a ≡ true) → a ≡ b
same_tests true b f g = sym (f refl)
same_tests false true f g = g refl
same_tests false false f g = refl

-- ---- all homes have units

pub units_long : (step i : ℕ) → 0 < units_of step i
unfolding units_of
units_long step i =
    cond_both (ltb i step) 1 _ (λ (n : ℕ). 0 < n) (λ yes. omega arith)
    (λ no. cond_both (ltb i (2 * step)) 4 16 (λ (n : ℕ). 0 < n) (λ yes. omega arith) (λ no. omega arith))

long_append : (ps qs : List Placed) → AreLong ps → AreLong qs → AreLong (ps ++ qs)
long_append [] qs a b = b
long_append (p ∷ ps) qs a b = (a.0, long_append ps qs a.1 b)

copies_long : (f i len : ℕ) (hs : Homes) → 0 < len → AreLong (placed_copies f i len hs)
copies_long f i len [] long = tt
copies_long f i len (None ∷ hs) long = copies_long f i len hs long
copies_long f i len (Some h ∷ hs) long = (long, copies_long f i len hs long)

extents_long : (step f i : ℕ) (homes : List Homes) → AreLong (placed_extents step f i homes)
extents_long step f i [] = tt
extents_long step f i (hs ∷ more) = long_append (placed_copies f i (units_of step i) hs) (placed_extents step f (suc i) more) (copies_long f i (units_of step i) hs (units_long step i)) (extents_long step f (suc i) more)

placed_long : (step : ℕ) (items : List Item) → AreLong (placed step items)
unfolding placed
placed_long step [] = tt
placed_long step (chunk_item f c homes ∷ items) = long_append (placed_extents step f (c * chunk_len) homes) (placed step items) (extents_long step f (c * chunk_len) homes) (placed_long step items)
placed_long step (i ∷ items) = placed_long step items

-- ---- both are one

-- the lowest run in a disk's map is the lowest by the records
pub lowest_of_disk : (s : Shape) (items : List Item) (e : Entry) (m : UnitMap) (n : ℕ) → 0 < n → AreUnits s items e m → lowest n m ≡ lowest_run s items n e
unfolding lowest lowest_run
lowest_of_disk s items e m n some are =
    let ps : List Placed = placed s.step items in
    let long : AreLong ps = placed_long s.step items in
    let first = reserved_units s in
    let ranges : range_with_len m.first (m.units + 1 - (m.first + n)) ≡ range_with_len first (e.units + 1 - (first + n)) = rw (are.first, are.units) refl in
    ap (λ (ks : List ℕ). find (is_free_from m n) ks) ranges
    ∙ find_agree (is_free_from m n) (is_free_run ps e.number n) (e.units + 1 - (first + n)) first (λ u low high.
    same_tests (is_free_from m n u) (is_free_run ps e.number n u)
    (λ t. run_from_units e.number n u ps some long (λ k ge lt. sym (are.free k (omega arith) (omega arith)) ∙ range_all (is_free m) n u t k ge lt))
    (λ t. all_range (is_free m) n u (λ k ge lt. are.free k (omega arith) (omega arith) ∙ units_from_run e.number n u ps t k ge lt)))
