-- The units of the disks by entries that give some of them other units.
use Rattle.std.proofs.Common.{◌≡◌, ℕ, zero, suc, ◌+◌, ◌<◌, ◌≤◌, Bool, true, false, cond, leb, ltb, eqb, get_or, take, drop, replicate, length, List, [], ◌∷◌, ◌++◌, map, Option, Some, None, refl, sym, ap, subst, ◌∙◌, arith, inl, inr}
use Rattle.std.specs.Prelude.{not, ◌&&◌, flat_map, slice_set}
use Rattle.std.specs.List.{range_with_len, slice_get}
use Rattle.std.specs.Option.{option_and_then, option_map}
use Rattle.std.proofs.lemmas.Bool.{cases_lt, cases_eq, true≢false, lt-leb, le-leb, lt-ltb, le-ltb, ltb-true, eqb-true, eq-eqb, ne_eqb}
use Rattle.std.proofs.lemmas.List.{append_assoc, append-nil, length-take, length-drop, length-append, length-replicate, get_or_default, get_or_past, get_or-replicate, same_lists}
use Rattle.std.proofs.lemmas.List.FromFn.{get_or-map-range_with_len, length-map-range_with_len}
use Rattle.std.proofs.lemmas.List.Concat.{flat_map-cons}
use Rattle.std.proofs.lemmas.Option.{slice_get_within}
use Rattle.std.proofs.Math.ListN.{take-append-drop, length-set}
use Rattle.asm_group.specs.Shape.{Shape}
use Rattle.asm_formats.specs.Items.{Home}
use Rattle.asm_formats.specs.Regions.{reserved_units}
use Rattle.asm_formats.specs.Sets.{most_disks}
use Rattle.asm_formats.specs.Status.{Entry}
use Rattle.catalog_tables.specs.asm_placement.Placed.{Placed}
use Rattle.catalog_tables.proofs.asm_base.Exact.{bind_some, some_is}
use Rattle.catalog_tables.specs.allocator.UnitMaps.{IsUnusedFrom, UnitMap, is_free, with_unit_count, unused, with_run}
use Rattle.catalog_tables.specs.Placing.{AreFit, HasUnits, IsFit, OtherMapsStay, after_homes, changed_map, changed_maps, disk_units, home_taken, homes_of, is_run_free, map_units, with_used_run, put_maps, resized_from, resized_maps, unused_maps}
use Rattle.catalog_tables.specs.Tables.{Tables}
use Rattle.catalog_tables.proofs.HomeUnits.{IsWhole, Takes, chunks_are_homes, is_in, not_true, replaced, run_fits, set_here, taken_is, takes, three_true, unused_at}
use Rattle.catalog_tables.proofs.PlacingLaws.{from_all, run_is}

-- ---- one map

pub resized_whole : (m : UnitMap) (u : ℕ) → IsWhole (with_unit_count m u)
resized_whole m u = length-map-range_with_len (λ (k : ℕ). get_or m.used k false) 0 u

resized_at : (m : UnitMap) (u k : ℕ) (d : Bool) → k < u → get_or (map (λ (j : ℕ). get_or m.used j false) (range_with_len 0 u)) k d ≡ get_or m.used k false
resized_at m u k d inside = get_or-map-range_with_len (λ (j : ℕ). get_or m.used j false) 0 u k k d inside (omega arith)

-- as many units make the same map
pub resized_same : (m : UnitMap) (u : ℕ) → IsWhole m → m.units ≡ u → with_unit_count m u ≡ m
resized_same m u whole same =
    let list : map (λ (j : ℕ). get_or m.used j false) (range_with_len 0 u) ≡ m.used =
    same_lists (map (λ (j : ℕ). get_or m.used j false) (range_with_len 0 u)) m.used (resized_whole m u ∙ sym (whole ∙ same)) (λ k d lt.
    let inside : k < u = omega (arith, lt, resized_whole m u) in
    resized_at m u k d inside ∙ get_or_default m.used k false d (omega (arith, inside, whole, same))) in
    ap (λ (n : ℕ). record { first = m.first; units = n; used = map (λ (j : ℕ). get_or m.used j false) (range_with_len 0 u) }) (sym same) ∙ ap (λ (xs : List Bool). record { first = m.first; units = m.units; used = xs }) list

none_used : (n k : ℕ) → get_or (replicate n false) k false ≡ false
none_used n k = elim (cases_lt k n) [
  | inl inside ↦ get_or-replicate n k false false inside
  | inr past ↦ get_or_past (replicate n false) k false (omega (arith, length-replicate {A = Bool} n false, past))
]

resized_unused : (first one other : ℕ) → with_unit_count (unused first one) other ≡ unused first other
resized_unused first one other =
    let m : UnitMap = unused first one in
    ap (λ (xs : List Bool). record { first = first; units = other; used = xs })
    (same_lists (map (λ (j : ℕ). get_or m.used j false) (range_with_len 0 other)) (replicate other false) (resized_whole m other ∙ sym (length-replicate {A = Bool} other false)) (λ k d lt.
    let inside : k < other = omega (arith, lt, resized_whole m other) in
    resized_at m other k d inside ∙ none_used one k ∙ sym (get_or-replicate other k false d inside)))

-- the units of a run lie below a number
abbrev Below : ℕ → ℕ → ℕ → Type 0
Below at n u = (k : ℕ) → at ≤ k → k < at + n → k < u

run_resized : (m : UnitMap) (at n u : ℕ) → IsWhole m → is_run_free m at n ≡ true → Below at n u → is_run_free (with_unit_count m u) at n ≡ true
run_resized m at n u whole free below = from_all (is_free (with_unit_count m u)) at n (λ k low high.
    let p = three_true (leb m.first k) (ltb k m.units) (not (get_or m.used k true)) (run_is m at n free k low high) in
    let unused_there : get_or m.used k false ≡ false = get_or_default m.used k false true (omega (arith, ltb-true k m.units p.1, whole)) ∙ not_true (get_or m.used k true) p.2 in
    rw (p.0, lt-ltb k u (below k low high), resized_at m u k true (below k low high), unused_there) refl)

run_below : (m : UnitMap) (at n u : ℕ) → is_run_free (with_unit_count m u) at n ≡ true → Below at n u
run_below m at n u free k low high =
    let p = three_true (leb m.first k) (ltb k u) (not (get_or (map (λ (j : ℕ). get_or m.used j false) (range_with_len 0 u)) k true)) (run_is (with_unit_count m u) at n free k low high) in
    ltb-true k u p.1

-- a run without units changes nothing
no_run : (xs : List Bool) (at : ℕ) → take at xs ++ replicate 0 true ++ drop (at + 0) xs ≡ xs
no_run xs at =
    let none : at + 0 ≡ at = omega arith in
    ap (λ (ys : List Bool). ys ++ drop (at + 0) xs) (append-nil (take at xs)) ∙ ap (λ (j : ℕ). take at xs ++ drop j xs) none ∙ take-append-drop at xs

no_run_map : (m : UnitMap) (at : ℕ) → with_run m at 0 true ≡ m
no_run_map m at = ap (λ (xs : List Bool). record { first = m.first; units = m.units; used = xs }) (no_run m.used at)

long_with : (xs : List Bool) (at n : ℕ) → at + n ≤ length xs → length (take at xs ++ replicate n true ++ drop (at + n) xs) ≡ length xs
long_with xs at n fits = omega (arith, length-append (take at xs ++ replicate n true) (drop (at + n) xs), length-append (take at xs) (replicate n true), length-take at xs, length-replicate {A = Bool} n true, length-drop (at + n) xs, fits)

with_resized : (m : UnitMap) (at n u : ℕ) → IsWhole m → is_run_free m at n ≡ true → Below at n u → with_run (with_unit_count m u) at n true ≡ with_unit_count (with_run m at n true) u
with_resized m at zero u whole free below = no_run_map (with_unit_count m u) at ∙ sym (ap (λ (x : UnitMap). with_unit_count x u) (no_run_map m at))
with_resized m at (suc n) u whole free below =
    let fits = run_fits m at n whole free in
    let under : at + suc n ≤ u = omega (arith, below (at + n) (omega arith) (omega arith)) in
    let ys : List Bool = map (λ (j : ℕ). get_or m.used j false) (range_with_len 0 u) in
    let long_ys : length ys ≡ u = resized_whole m u in
    let w : UnitMap = with_run m at (suc n) true in
    let long_left : length (take at ys ++ replicate (suc n) true ++ drop (at + suc n) ys) ≡ u = long_with ys at (suc n) (omega (arith, under, long_ys)) ∙ long_ys in
    ap (λ (xs : List Bool). record { first = m.first; units = u; used = xs })
    (same_lists (take at ys ++ replicate (suc n) true ++ drop (at + suc n) ys) (map (λ (j : ℕ). get_or w.used j false) (range_with_len 0 u)) (long_left ∙ sym (resized_whole w u)) (λ k d lt.
    let inside : k < u = omega (arith, lt, long_left) in
    replaced ys at (suc n) true k d (omega (arith, under, long_ys)) ∙ ap (λ (b : Bool). cond (is_in at (suc n) k) true b) (resized_at m u k d inside)
    ∙ sym (resized_at w u k d inside ∙ replaced m.used at (suc n) true k false fits)))

-- where no unit from one on is used behind a run that was taken, none was before
unused_before : (m : UnitMap) (at n u : ℕ) → IsWhole m → is_run_free m at n ≡ true → IsUnusedFrom (with_run m at n true) u → IsUnusedFrom m u × Below at n u
unused_before m at zero u whole free none = (
  λ k low. ap (λ (xs : List Bool). get_or xs k false) (sym (no_run m.used at)) ∙ none k low,
  λ k low high. absurd (omega (arith, low, high)),
)
unused_before m at (suc n) u whole free none =
    let fits = run_fits m at n whole free in
    let is = λ (k : ℕ) (low : u ≤ k). sym (replaced m.used at (suc n) true k false fits) ∙ none k low in (
      λ k low. (parts (is_in at (suc n) k) (get_or m.used k false) (is k low)).1,
      λ k low high. elim (cases_lt k u) [
        | inl below ↦ below
        | inr past ↦
            let inside : is_in at (suc n) k ≡ true = rw (le-leb at k low, lt-ltb k (at + suc n) high) refl in
            absurd (true≢false (sym inside ∙ (parts (is_in at (suc n) k) (get_or m.used k false) (is k past)).0))
      ],
    )
  where
    parts : (b c : Bool) → cond b true c ≡ false → (b ≡ false) × (c ≡ false)
    parts true c e = absurd (true≢false e)
    parts false c e = (refl, e)

-- a run below a number leaves the units from there on
unused_after : (m : UnitMap) (at n u : ℕ) → IsWhole m → is_run_free m at n ≡ true → IsUnusedFrom m u → Below at n u → IsUnusedFrom (with_run m at n true) u
unused_after m at zero u whole free none below k low = ap (λ (xs : List Bool). get_or xs k false) (no_run m.used at) ∙ none k low
unused_after m at (suc n) u whole free none below k low =
    replaced m.used at (suc n) true k false (run_fits m at n whole free) ∙ rw (le-ltb k (at + suc n) (omega (arith, low, below (at + n) (omega arith) (omega arith)))) (rw (none_in (leb at k)) (none k low))
  where
    none_in : (b : Bool) → (b && false) ≡ false
    none_in true = refl
    none_in false = refl

-- ---- all maps

abbrev pub AllWhole : List UnitMap → Type 0
AllWhole ms = (d : ℕ) (m : UnitMap) → slice_get ms d ≡ Some m → IsWhole m

-- no unit that the entries lack is used
abbrev AllFit : List Entry → List UnitMap → Type 0
AllFit es ms = (d : ℕ) (m : UnitMap) → slice_get ms d ≡ Some m → IsUnusedFrom m (disk_units es d)

set_apart : (ms : List UnitMap) (d c : ℕ) (x : UnitMap) → (d ≡ c → ⊥) → slice_get (slice_set ms c x) d ≡ slice_get ms d
set_apart [] d c x apart = refl
set_apart (m ∷ ms) zero zero x apart = absurd (apart refl)
set_apart (m ∷ ms) (suc d) zero x apart = refl
set_apart (m ∷ ms) zero (suc c) x apart = refl
set_apart (m ∷ ms) (suc d) (suc c) x apart = set_apart ms d c x (λ e. apart (ap suc e))

pub resized_get : (es : List Entry) (ms : List UnitMap) (d i j : ℕ) → i + d ≡ j → slice_get (resized_from i es ms) d ≡ option_map (λ m. with_unit_count m (disk_units es j)) (slice_get ms d)
unfolding resized_from
resized_get es [] d i j e = refl
resized_get es (m ∷ ms) zero i j e =
    let same : i ≡ j = omega (arith, e) in
    ap (λ (n : ℕ). Some (with_unit_count m (disk_units es n))) same
resized_get es (m ∷ ms) (suc d) i j e = resized_get es ms d (suc i) j (omega (arith, e))

resized_set : (es : List Entry) (ms : List UnitMap) (d i j : ℕ) (x : UnitMap) → i + d ≡ j → resized_from i es (slice_set ms d x) ≡ slice_set (resized_from i es ms) d (with_unit_count x (disk_units es j))
unfolding resized_from
resized_set es [] d i j x e = refl
resized_set es (m ∷ ms) zero i j x e =
    let same : i ≡ j = omega (arith, e) in
    ap (λ (n : ℕ). with_unit_count x (disk_units es n) ∷ resized_from (suc i) es ms) same
resized_set es (m ∷ ms) (suc d) i j x e = ap (λ (xs : List UnitMap). with_unit_count m (disk_units es i) ∷ xs) (resized_set es ms d (suc i) j x (omega (arith, e)))

get_resized : (es : List Entry) (ms : List UnitMap) (d : ℕ) (m : UnitMap) → slice_get ms d ≡ Some m → slice_get (resized_maps es ms) d ≡ Some (with_unit_count m (disk_units es d))
get_resized es ms d m there = resized_get es ms d 0 d (omega arith) ∙ ap (λ (o : Option UnitMap). option_map (λ x. with_unit_count x (disk_units es d)) o) there

-- what a home's map is behind it, and those of the other disks
mid_here : (ms mid : List UnitMap) (h : Home) (n : ℕ) → (t : Takes ms mid h n) → slice_get mid h.disk ≡ Some (with_run t.map_before h.unit n true)
mid_here ms mid h n t = ap (λ (xs : List UnitMap). slice_get xs h.disk) t.put ∙ set_here ms h.disk t.map_before (with_run t.map_before h.unit n true) t.there

mid_other : (ms mid : List UnitMap) (h : Home) (n d : ℕ) → Takes ms mid h n → (d ≡ h.disk → ⊥) → slice_get mid d ≡ slice_get ms d
mid_other ms mid h n d t apart = ap (λ (xs : List UnitMap). slice_get xs d) t.put ∙ set_apart ms d h.disk (with_run t.map_before h.unit n true) apart

whole_step : (ms mid : List UnitMap) (h : Home) (n : ℕ) → Takes ms mid h n → AllWhole ms → AllWhole mid
whole_step ms mid h n t whole d m there = elim (cases_eq d h.disk) [
  | inl same ↦
      let is : with_run t.map_before h.unit n true ≡ m = some_is (with_run t.map_before h.unit n true) m (sym (mid_here ms mid h n t) ∙ ap (slice_get mid) (sym same) ∙ there) in
      subst (λ (x : UnitMap). IsWhole x) is (taken_is t.map_before h.unit n (whole h.disk t.map_before t.there) t.free).whole
  | inr apart ↦ whole d m (sym (mid_other ms mid h n d t apart) ∙ there)
]

put_resized : (es : List Entry) (ms mid : List UnitMap) (h : Home) (n : ℕ) (t : Takes ms mid h n) → IsWhole t.map_before → Below h.unit n (disk_units es h.disk)
    → slice_set (resized_maps es ms) h.disk (with_run (with_unit_count t.map_before (disk_units es h.disk)) h.unit n true) ≡ resized_maps es mid
put_resized es ms mid h n t whole below =
    ap (slice_set (resized_maps es ms) h.disk) (with_resized t.map_before h.unit n (disk_units es h.disk) whole t.free below)
    ∙ sym (resized_set es ms h.disk 0 h.disk (with_run t.map_before h.unit n true) (omega arith)) ∙ ap (resized_maps es) (sym t.put)

-- a home that was taken is taken of the maps with other units, where none is used behind it that they lack
step_fits : (es : List Entry) (ms mid : List UnitMap) (h : Home) (n : ℕ) → Takes ms mid h n → AllWhole ms → AllFit es mid → (home_taken (resized_maps es ms) h n ≡ Some (resized_maps es mid)) × AllFit es ms
step_fits es ms mid h n t whole fit =
    let m : UnitMap = t.map_before in
    let u : ℕ = disk_units es h.disk in
    let w = whole h.disk m t.there in
    let b = unused_before m h.unit n u w t.free (fit h.disk (with_run m h.unit n true) (mid_here ms mid h n t)) in
    let there : slice_get (resized_maps es ms) h.disk ≡ Some (with_unit_count m u) = get_resized es ms h.disk m t.there in
    let free : is_run_free (with_unit_count m u) h.unit n ≡ true = run_resized m h.unit n u w t.free b.1 in (
      rw (there, free) (ap (λ (xs : List UnitMap). Some xs) (put_resized es ms mid h n t w b.1)),
      λ d x at. elim (cases_eq d h.disk) [
        | inl same ↦
            let is : m ≡ x = some_is m x (sym t.there ∙ ap (slice_get ms) (sym same) ∙ at) in
            subst (λ (y : UnitMap). IsUnusedFrom y (disk_units es d)) is (subst (λ (c : ℕ). IsUnusedFrom m (disk_units es c)) (sym same) b.0)
        | inr apart ↦ fit d x (mid_other ms mid h n d t apart ∙ at)
      ],
    )

homes_fit : (es : List Entry) (ps : List Placed) (ms next : List UnitMap) → AllWhole ms → after_homes ms ps ≡ Some next → AllFit es next → (after_homes (resized_maps es ms) ps ≡ Some (resized_maps es next)) × AllFit es ms
unfolding after_homes
homes_fit es [] ms next whole e fit =
    let same : ms ≡ next = some_is ms next e in
    (ap (λ (xs : List UnitMap). Some (resized_maps es xs)) same, subst (λ (xs : List UnitMap). AllFit es xs) (sym same) fit)
homes_fit es (p ∷ ps) ms next whole e fit =
    let b = bind_some (λ (mid : List UnitMap). after_homes mid ps) (home_taken ms p.home p.len) next e in
    let t = takes ms b.0 p.home p.len b.1 in
    let rest = homes_fit es ps b.0 next (whole_step ms b.0 p.home p.len t whole) b.2 fit in
    let one = step_fits es ms b.0 p.home p.len t whole rest.1 in
    (rw one.0 rest.0, one.1)

-- a home that was taken of both is taken of the maps with other units as they are
step_both : (es : List Entry) (ms mid other : List UnitMap) (h : Home) (n : ℕ) → Takes ms mid h n → Takes (resized_maps es ms) other h n → AllWhole ms → AllFit es ms → (other ≡ resized_maps es mid) × AllFit es mid
step_both es ms mid other h n t z whole fit =
    let m : UnitMap = t.map_before in
    let u : ℕ = disk_units es h.disk in
    let w = whole h.disk m t.there in
    let is : z.map_before ≡ with_unit_count m u = some_is z.map_before (with_unit_count m u) (sym z.there ∙ get_resized es ms h.disk m t.there) in
    let below : Below h.unit n u = run_below m h.unit n u (ap (λ (x : UnitMap). is_run_free x h.unit n) (sym is) ∙ z.free) in (
      z.put ∙ ap (λ (x : UnitMap). slice_set (resized_maps es ms) h.disk (with_run x h.unit n true)) is ∙ put_resized es ms mid h n t w below,
      λ d x at. elim (cases_eq d h.disk) [
        | inl same ↦
            let new : with_run m h.unit n true ≡ x = some_is (with_run m h.unit n true) x (sym (mid_here ms mid h n t) ∙ ap (slice_get mid) (sym same) ∙ at) in
            let one = unused_after m h.unit n u w t.free (fit h.disk m t.there) below in
            subst (λ (y : UnitMap). IsUnusedFrom y (disk_units es d)) new (subst (λ (c : ℕ). IsUnusedFrom (with_run m h.unit n true) (disk_units es c)) (sym same) one)
        | inr apart ↦ fit d x (sym (mid_other ms mid h n d t apart) ∙ at)
      ],
    )

homes_both : (es : List Entry) (ps : List Placed) (ms next other : List UnitMap) → AllWhole ms → AllFit es ms → after_homes ms ps ≡ Some next → after_homes (resized_maps es ms) ps ≡ Some other → (other ≡ resized_maps es next) × AllFit es next
unfolding after_homes
homes_both es [] ms next other whole fit e f =
    let same : ms ≡ next = some_is ms next e in
    (sym (some_is (resized_maps es ms) other f) ∙ ap (resized_maps es) same, subst (λ (xs : List UnitMap). AllFit es xs) same fit)
homes_both es (p ∷ ps) ms next other whole fit e f =
    let b = bind_some (λ (mid : List UnitMap). after_homes mid ps) (home_taken ms p.home p.len) next e in
    let c = bind_some (λ (mid : List UnitMap). after_homes mid ps) (home_taken (resized_maps es ms) p.home p.len) other f in
    let t = takes ms b.0 p.home p.len b.1 in
    let one = step_both es ms b.0 c.0 p.home p.len t (takes (resized_maps es ms) c.0 p.home p.len c.1) whole fit in
    homes_both es ps b.0 next other (whole_step ms b.0 p.home p.len t whole) one.1 b.2 (ap (λ (xs : List UnitMap). after_homes xs ps) (sym one.0) ∙ c.2)

homes_whole : (ps : List Placed) (ms next : List UnitMap) → AllWhole ms → after_homes ms ps ≡ Some next → AllWhole next
unfolding after_homes
homes_whole [] ms next whole e = subst (λ (xs : List UnitMap). AllWhole xs) (some_is ms next e) whole
homes_whole (p ∷ ps) ms next whole e =
    let b = bind_some (λ (mid : List UnitMap). after_homes mid ps) (home_taken ms p.home p.len) next e in
    homes_whole ps b.0 next (whole_step ms b.0 p.home p.len (takes ms b.0 p.home p.len b.1) whole) b.2

homes_long : (ps : List Placed) (ms next : List UnitMap) → after_homes ms ps ≡ Some next → length next ≡ length ms
unfolding after_homes
homes_long [] ms next e = ap length (sym (some_is ms next e))
homes_long (p ∷ ps) ms next e =
    let b = bind_some (λ (mid : List UnitMap). after_homes mid ps) (home_taken ms p.home p.len) next e in
    let t = takes ms b.0 p.home p.len b.1 in
    homes_long ps b.0 next b.2 ∙ ap length t.put ∙ length-set ms p.home.disk (with_run t.map_before p.home.unit p.len true)

-- ---- the homes of the tables

first_resized : (first : ℕ) (one other : List Entry) (i j n : ℕ) → i ≡ j → resized_from i other (map (λ d. unused first (disk_units one d)) (range_with_len j n)) ≡ map (λ d. unused first (disk_units other d)) (range_with_len j n)
unfolding resized_from
first_resized first one other i j zero e = refl
first_resized first one other i j (suc n) e =
    let rest = first_resized first one other (suc i) (j + 1) n (omega (arith, e)) in
    let here : with_unit_count (unused first (disk_units one j)) (disk_units other i) ≡ unused first (disk_units other j) = resized_unused first (disk_units one j) (disk_units other i) ∙ ap (λ (k : ℕ). unused first (disk_units other k)) e in
    ap (λ (x : UnitMap). x ∷ resized_from (suc i) other (map (λ d. unused first (disk_units one d)) (range_with_len (j + 1) n))) here ∙ ap (λ (xs : List UnitMap). unused first (disk_units other j) ∷ xs) rest

first_whole : (s : Shape) (es : List Entry) → AllWhole (unused_maps s es)
first_whole s es d m there =
    let small : d < 64 = omega (arith, slice_get_within (unused_maps s es) d m there, length-map-range_with_len (λ (k : ℕ). unused (reserved_units s) (disk_units es k)) 0 64) in
    subst (λ (x : UnitMap). IsWhole x) (some_is (unused (reserved_units s) (disk_units es d)) m (sym (unused_at s es d small) ∙ there)) (length-replicate {A = Bool} (disk_units es d) false)

first_fit : (s : Shape) (es other : List Entry) → AllFit other (unused_maps s es)
first_fit s es other d m there k low =
    let small : d < 64 = omega (arith, slice_get_within (unused_maps s es) d m there, length-map-range_with_len (λ (j : ℕ). unused (reserved_units s) (disk_units es j)) 0 64) in
    subst (λ (x : UnitMap). get_or x.used k false ≡ false) (some_is (unused (reserved_units s) (disk_units es d)) m (sym (unused_at s es d small) ∙ there)) (none_used (disk_units es d) k)

as_homes : (s : Shape) (es : List Entry) (t : Tables) (ms : List UnitMap) → HasUnits s es t ms → after_homes (unused_maps s es) (flat_map (homes_of s.step) t.extents) ≡ Some ms
as_homes s es t ms has = sym (chunks_are_homes s.step t.extents (unused_maps s es)) ∙ has

pub all_whole : (s : Shape) (es : List Entry) (t : Tables) (ms : List UnitMap) → HasUnits s es t ms → AllWhole ms
all_whole s es t ms has = homes_whole (flat_map (homes_of s.step) t.extents) (unused_maps s es) ms (first_whole s es) (as_homes s es t ms has)

pub all_long : (s : Shape) (es : List Entry) (t : Tables) (ms : List UnitMap) → HasUnits s es t ms → length ms ≡ 64
all_long s es t ms has = homes_long (flat_map (homes_of s.step) t.extents) (unused_maps s es) ms (as_homes s es t ms has) ∙ length-map-range_with_len (λ (k : ℕ). unused (reserved_units s) (disk_units es k)) 0 64

starts : (s : Shape) (one other : List Entry) → resized_maps other (unused_maps s one) ≡ unused_maps s other
starts s one other = first_resized (reserved_units s) one other 0 0 most_disks refl

pub units_resize : (s : Shape) (one other : List Entry) (t : Tables) (ms : List UnitMap) → HasUnits s one t ms → AreFit ms other → HasUnits s other t (resized_maps other ms)
units_resize s one other t ms has fit =
    let ps : List Placed = flat_map (homes_of s.step) t.extents in
    let all : AllFit other ms = λ d m there. subst (λ (o : Option UnitMap). IsFit o (disk_units other d)) there (fit d (omega (arith, slice_get_within ms d m there, all_long s one t ms has))) in
    chunks_are_homes s.step t.extents (unused_maps s other) ∙ ap (λ (xs : List UnitMap). after_homes xs ps) (sym (starts s one other))
    ∙ (homes_fit other ps (unused_maps s one) ms (first_whole s one) (as_homes s one t ms has) all).0

pub units_are_resized : (s : Shape) (one other : List Entry) (t : Tables) (ms next : List UnitMap) → HasUnits s one t ms → HasUnits s other t next → AreFit ms other × (next ≡ resized_maps other ms)
units_are_resized s one other t ms next has there =
    let ps : List Placed = flat_map (homes_of s.step) t.extents in
    let both = homes_both other ps (unused_maps s one) ms next (first_whole s one) (first_fit s one other) (as_homes s one t ms has) (ap (λ (xs : List UnitMap). after_homes xs ps) (starts s one other) ∙ as_homes s other t next there) in
    (λ d small. fits d (slice_get ms d) (both.1 d), both.0)
  where
    fits : (d : ℕ) (o : Option UnitMap) → ((m : UnitMap) → o ≡ Some m → IsUnusedFrom m (disk_units other d)) → IsFit o (disk_units other d)
    fits d None all = tt
    fits d (Some m) all = all m refl

-- ---- the maps that change, put in their places

-- the maps of the disks before one with their next units
mixed : ℕ → ℕ → List Entry → List UnitMap → List UnitMap
mixed n i es [] = []
mixed n i es (m ∷ ms) = cond (ltb i n) (with_unit_count m (disk_units es i)) m ∷ mixed n (suc i) es ms

mixed_none : (n i : ℕ) (es : List Entry) (ms : List UnitMap) → n ≤ i → mixed n i es ms ≡ ms
unfolding mixed
mixed_none n i es [] past = refl
mixed_none n i es (m ∷ ms) past = rw (le-ltb i n past, mixed_none n (suc i) es ms (omega (arith, past))) refl

mixed_all : (n i : ℕ) (es : List Entry) (ms : List UnitMap) → i + length ms ≤ n → mixed n i es ms ≡ resized_from i es ms
unfolding mixed resized_from
mixed_all n i es [] within = refl
mixed_all n i es (m ∷ ms) within =
    let more : i + suc (length ms) ≤ n = within in
    rw (lt-ltb i n (omega (arith, more)), mixed_all n (suc i) es ms (omega (arith, more))) refl

-- one disk more
mixed_put : (n i j : ℕ) (es : List Entry) (ms : List UnitMap) (m : UnitMap) → slice_get ms j ≡ Some m → i + j ≡ n → slice_set (mixed n i es ms) j (with_unit_count m (disk_units es n)) ≡ mixed (n + 1) i es ms
unfolding mixed
mixed_put n i j es [] m there at = absurd cc
mixed_put n i zero es (x ∷ ms) m there at =
    let here : i ≡ n = omega (arith, at) in
    let is : x ≡ m = some_is x m there in
    rw (lt-ltb i (n + 1) (omega (arith, here)), mixed_none n (suc i) es ms (omega (arith, here)), mixed_none (n + 1) (suc i) es ms (omega (arith, here)), here, is) refl
mixed_put n i (suc j) es (x ∷ ms) m there at =
    rw (lt-ltb i n (omega (arith, at)), lt-ltb i (n + 1) (omega (arith, at))) (ap (λ (xs : List UnitMap). with_unit_count x (disk_units es i) ∷ xs) (mixed_put n (suc i) j es ms m there (omega (arith, at))))

-- where its units stay, or where there is none, nothing changes
mixed_stay : (n i j : ℕ) (es : List Entry) (ms : List UnitMap) → ((m : UnitMap) → slice_get ms j ≡ Some m → with_unit_count m (disk_units es n) ≡ m) → i + j ≡ n → mixed n i es ms ≡ mixed (n + 1) i es ms
unfolding mixed
mixed_stay n i j es [] same at = refl
mixed_stay n i zero es (x ∷ ms) same at =
    let here : i ≡ n = omega (arith, at) in
    let is : with_unit_count x (disk_units es i) ≡ x = ap (λ (k : ℕ). with_unit_count x (disk_units es k)) here ∙ same x refl in
    rw (lt-ltb i (n + 1) (omega (arith, here)), le-ltb i n (omega (arith, here)), mixed_none n (suc i) es ms (omega (arith, here)), mixed_none (n + 1) (suc i) es ms (omega (arith, here)), is) refl
mixed_stay n i (suc j) es (x ∷ ms) same at =
    rw (lt-ltb i n (omega (arith, at)), lt-ltb i (n + 1) (omega (arith, at))) (ap (λ (xs : List UnitMap). with_unit_count x (disk_units es i) ∷ xs) (mixed_stay n (suc i) j es ms same (omega (arith, at))))

-- a map with as many units stays
stays : (es : List Entry) (ms : List UnitMap) (d : ℕ) (m : UnitMap) → ((x : UnitMap) → slice_get ms d ≡ Some x → IsWhole x) → slice_get ms d ≡ Some m → m.units ≡ disk_units es d → (x : UnitMap) → slice_get ms d ≡ Some x → with_unit_count x (disk_units es d) ≡ x
stays es ms d m whole is same x there =
    let one : m ≡ x = some_is m x (sym is ∙ there) in
    resized_same x (disk_units es d) (whole x there) (ap (λ (y : UnitMap). y.units) (sym one) ∙ same)

abbrev changes : List UnitMap → List Entry → ℕ → List (ℕ × UnitMap)
changes ms es d = changed_map d (disk_units es d) (slice_get ms d)

put_all : (es : List Entry) (ms : List UnitMap) (d n : ℕ) → AllWhole ms → put_maps (mixed d 0 es ms) (flat_map (changes ms es) (range_with_len d n)) ≡ mixed (d + n) 0 es ms
unfolding put_maps
put_all es ms d zero whole = let e : d ≡ d + 0 = omega arith in ap (λ (k : ℕ). mixed k 0 es ms) e
put_all es ms d (suc n) whole =
    let e : d + 1 + n ≡ d + suc n = omega arith in
    let at : 0 + d ≡ d = omega arith in
    let rest : put_maps (mixed (d + 1) 0 es ms) (flat_map (changes ms es) (range_with_len (d + 1) n)) ≡ mixed (d + suc n) 0 es ms = put_all es ms (d + 1) n whole ∙ ap (λ (k : ℕ). mixed k 0 es ms) e in
    ap (put_maps (mixed d 0 es ms)) (flat_map-cons (changes ms es) d (range_with_len (d + 1) n)) ∙ by (flat_map (changes ms es) (range_with_len (d + 1) n)) at (slice_get ms d) refl ∙ rest
  where
    by : (left : List (ℕ × UnitMap)) → 0 + d ≡ d → (o : Option UnitMap) → slice_get ms d ≡ o → put_maps (mixed d 0 es ms) (changed_map d (disk_units es d) o ++ left) ≡ put_maps (mixed (d + 1) 0 es ms) left
    by left at None is = ap (λ (xs : List UnitMap). put_maps xs left) (mixed_stay d 0 d es ms (λ m there. absurd (no_map m (sym is ∙ there))) at) where
      no_map : (m : UnitMap) → None ≡ Some m → ⊥
      no_map m e = absurd cc
    by left at (Some m) is = in_map (eqb m.units (disk_units es d)) refl where
      in_map : (b : Bool) → eqb m.units (disk_units es d) ≡ b → put_maps (mixed d 0 es ms) (cond b [] ((d, with_unit_count m (disk_units es d)) ∷ []) ++ left) ≡ put_maps (mixed (d + 1) 0 es ms) left
      in_map true same = ap (λ (xs : List UnitMap). put_maps xs left) (mixed_stay d 0 d es ms (stays es ms d m (λ x there. whole d x there) is (eqb-true m.units (disk_units es d) same)) at)
      in_map false other = ap (λ (xs : List UnitMap). put_maps xs left) (mixed_put d 0 d es ms m is at)

pub changed_are : (es : List Entry) (ms : List UnitMap) → AllWhole ms → length ms ≡ 64 → put_maps ms (changed_maps ms es) ≡ resized_maps es ms
unfolding changed_maps
changed_are es ms whole long =
    ap (λ (xs : List UnitMap). put_maps xs (changed_maps ms es)) (sym (mixed_none 0 0 es ms (omega arith))) ∙ put_all es ms 0 most_disks whole ∙ mixed_all (0 + most_disks) 0 es ms (omega (arith, long))

-- maps of disks whose units stay do
pub others_stay : (es : List Entry) (ms : List UnitMap) → AllWhole ms → OtherMapsStay es ms (resized_maps es ms)
others_stay es ms whole d same = resized_get es ms d 0 d (omega arith) ∙ by (slice_get ms d) refl same where
  by : (o : Option UnitMap) → slice_get ms d ≡ o → map_units o ≡ disk_units es d → option_map (λ m. with_unit_count m (disk_units es d)) o ≡ o
  by None is same = refl
  by (Some m) is same = ap (λ (x : UnitMap). Some x) (resized_same m (disk_units es d) (whole d m is) same)

-- one number more
flat_more : (f : ℕ → List (ℕ × UnitMap)) (a n j : ℕ) → a + n ≡ j → flat_map f (range_with_len a (n + 1)) ≡ flat_map f (range_with_len a n) ++ f j
flat_more f a zero j e =
    let same : a ≡ j = omega (arith, e) in
    flat_map-cons f a [] ∙ append-nil (f a) ∙ ap f same
flat_more f a (suc n) j e =
    let more : suc n + 1 ≡ suc (n + 1) = omega arith in
    ap (λ (k : ℕ). flat_map f (range_with_len a k)) more ∙ flat_map-cons f a (range_with_len (a + 1) (n + 1)) ∙ ap (λ (xs : List (ℕ × UnitMap)). f a ++ xs) (flat_more f (a + 1) n j (omega (arith, e)))
    ∙ sym (append_assoc (f a) (flat_map f (range_with_len (a + 1) n)) (f j)) ∙ ap (λ (xs : List (ℕ × UnitMap)). xs ++ f j) (sym (flat_map-cons f a (range_with_len (a + 1) n)))

pub changed_more : (es : List Entry) (ms : List UnitMap) (n : ℕ) (old new : List (ℕ × UnitMap)) → old ≡ flat_map (λ d. changed_map d (disk_units es d) (slice_get ms d)) (range_with_len 0 n) → new ≡ old ++ changed_map n (disk_units es n) (slice_get ms n)
    → new ≡ flat_map (λ d. changed_map d (disk_units es d) (slice_get ms d)) (range_with_len 0 (n + 1))
changed_more es ms n old new so_far more = more ∙ ap (λ (xs : List (ℕ × UnitMap)). xs ++ changes ms es n) so_far ∙ sym (flat_more (changes ms es) 0 n n (omega arith))

pub changed_done : (es : List Entry) (ms : List UnitMap) (n : ℕ) (all : List (ℕ × UnitMap)) → all ≡ flat_map (λ d. changed_map d (disk_units es d) (slice_get ms d)) (range_with_len 0 n) → n ≡ most_disks → all ≡ changed_maps ms es
unfolding changed_maps
changed_done es ms n all so_far end = so_far ∙ ap (λ (k : ℕ). flat_map (λ d. changed_map d (disk_units es d) (slice_get ms d)) (range_with_len 0 k)) end

-- nothing more
no_more : (xs : List (ℕ × UnitMap)) → xs ≡ xs ++ []
no_more xs = sym (append-nil xs)

pub changed_past : (xs : List (ℕ × UnitMap)) (d units : ℕ) (o : Option UnitMap) → o ≡ None → xs ≡ xs ++ changed_map d units o
changed_past xs d units o none = rw none (no_more xs)

pub changed_none : (xs : List (ℕ × UnitMap)) (d units : ℕ) (m : UnitMap) → m.units ≡ units → xs ≡ xs ++ changed_map d units (Some m)
changed_none xs d units m same = rw (eq-eqb m.units units same) (no_more xs)

pub changed_one : (xs ys : List (ℕ × UnitMap)) (d units : ℕ) (m x : UnitMap) → (m.units ≡ units → ⊥) → x ≡ with_unit_count m units → ys ≡ xs ++ (d, x) ∷ [] → ys ≡ xs ++ changed_map d units (Some m)
changed_one xs ys d units m x other is put = put ∙ ap (λ (y : UnitMap). xs ++ (d, y) ∷ []) is ∙ rw (ne_eqb m.units units other) refl

-- maps that are put one after the other
pub put_next : (ms new : List UnitMap) (d : ℕ) (m : UnitMap) (all left : List (ℕ × UnitMap)) (whole : List UnitMap) → all ≡ (d, m) ∷ left → new ≡ slice_set ms d m → put_maps ms all ≡ whole → put_maps new left ≡ whole
unfolding put_maps
put_next ms new d m all left whole split put so_far = ap (λ (xs : List UnitMap). put_maps xs left) put ∙ ap (put_maps ms) (sym split) ∙ so_far

pub put_end : (ms : List UnitMap) (all : List (ℕ × UnitMap)) (whole : List UnitMap) → length all ≡ 0 → put_maps ms all ≡ whole → ms ≡ whole
unfolding put_maps
put_end ms [] whole none so_far = so_far
put_end ms (x ∷ all) whole none so_far = absurd (omega (arith, none))
