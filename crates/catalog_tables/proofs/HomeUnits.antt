-- What homes that are taken one after the other make of a disk's map.
use Rattle.std.proofs.Common.{◌≡◌, ℕ, zero, suc, ◌+◌, ◌-◌, ◌*◌, ◌<◌, ◌≤◌, Bool, true, false, cond, eqb, leb, ltb, get_or, take, drop, replicate, length, List, [], ◌∷◌, ◌++◌, Option, Some, None, refl, sym, ap, subst, ◌∙◌, arith, inl, inr}
use Rattle.std.specs.Prelude.{◌&&◌, ◌||◌, not, flat_map, slice_set, count_by}
use Rattle.std.specs.List.{AllByRecursion, list_any, slice_get}
use Rattle.std.specs.Option.{option_and_then}
use Rattle.std.proofs.lemmas.Bool.{and_parts, cases_lt, eqb-true, eqb-false, eq-eqb, ne_eqb, leb-true, ltb-true, lt-leb, le-leb, lt-ltb, le-ltb}
use Rattle.std.proofs.lemmas.List.{append-nil, length-take, length-drop, length-append, length-replicate, get_or_append_left, get_or-append_right, get_or-take, get_or-drop, get_or-replicate, get_or_default, get_or-set_same, get_or-set_other}
use Rattle.std.proofs.lemmas.List.FromFn.{get_or-map-range_with_len, length-map-range_with_len}
use Rattle.std.proofs.lemmas.List.Folds.{sum_by-replicate}
use Rattle.std.proofs.lemmas.Option.{none-some, slice_get_within, slice_get_read, get_or_from_slice_get}
use Rattle.std.proofs.Math.ListN.{take-append-drop, length-set}
use Rattle.asm_group.specs.Shape.{Shape}
use Rattle.asm_formats.specs.Among.{IsAmong}
use Rattle.asm_formats.specs.Items.{Home}
use Rattle.asm_formats.specs.Regions.{reserved_units}
use Rattle.asm_formats.specs.Sets.{most_disks}
use Rattle.asm_formats.specs.Status.{Entry, ascends_from, is_entry}
use Rattle.partnership.specs.asm_placement.DiskSets.{numbers}
use Rattle.partnership.specs.asm_placement.Placed.{Placed}
use Rattle.partnership.specs.asm_placement.Space.{is_free_run, units_on}
use Rattle.page_map.specs.allocator.UnitMaps.{UnitMap, is_free, unused, used_of, with_run}
use Rattle.page_map.proofs.allocator.Maps.{count_replaced}
use Rattle.asm_base.proofs.Exact.{bind_some, some_is}
use Rattle.extent_map.specs.Extents.{Chunked}
use Rattle.catalog_tables.specs.Placing.{after_chunks, after_homes, disk_units, home_taken, homes_of, is_run_free, with_used_run, unused_maps}
use Rattle.catalog_tables.proofs.PlacingLaws.{after_append, run_is}

-- ---- a map with a run used

abbrev pub is_in : ℕ → ℕ → ℕ → Bool
is_in at n k = leb at k && ltb k (at + n)

pub and_false : (b : Bool) → (b && false) ≡ false
and_false true = refl
and_false false = refl

-- an element of a list of which a run was replaced
pub replaced : (xs : List Bool) (at n : ℕ) (used : Bool) (k : ℕ) (d : Bool) → at + n ≤ length xs → get_or (take at xs ++ replicate n used ++ drop (at + n) xs) k d ≡ cond (is_in at n k) used (get_or xs k d)
replaced xs at n used k d fits =
    let front : length (take at xs) ≡ at = omega (arith, length-take at xs) in
    let two : length (take at xs ++ replicate n used) ≡ at + n = omega (arith, length-append (take at xs) (replicate n used), front, length-replicate n used) in
    elim (cases_lt k at) [
      | inl before ↦ rw (lt-leb at k before) (get_or_append_left (take at xs ++ replicate n used) (drop (at + n) xs) d k (omega arith) ∙ get_or_append_left (take at xs) (replicate n used) d k (omega arith) ∙ get_or-take at xs k d before)
      | inr from ↦ elim (cases_lt k (at + n)) [
        | inl inside ↦ rw (le-leb at k from, lt-ltb k (at + n) inside) (get_or_append_left (take at xs ++ replicate n used) (drop (at + n) xs) d k (omega arith) ∙ get_or-append_right (take at xs) (replicate n used) at k d front from ∙ get_or-replicate n (k - at) used d (omega arith))
        | inr behind ↦
            let e : at + n + (k - (at + n)) ≡ k = omega arith in
            rw (le-leb at k from, le-ltb k (at + n) behind) (get_or-append_right (take at xs ++ replicate n used) (drop (at + n) xs) (at + n) k d two behind ∙ get_or-drop (at + n) xs (k - (at + n)) d ∙ ap (λ (j : ℕ). get_or xs j d) e)
      ]
    ]

-- a map with as many places as units
abbrev pub IsWhole : UnitMap → Type 0
IsWhole m = length m.used ≡ m.units

pub three_true : (a b c : Bool) → (a && b && c) ≡ true → (a ≡ true) × (b ≡ true) × (c ≡ true)
three_true true true c e = (refl, refl, e)
three_true true false c e = absurd cc
three_true false b c e = absurd cc

pub not_true : (b : Bool) → not b ≡ true → b ≡ false
not_true true e = absurd cc
not_true false e = refl

-- a run that is free lies in the map
pub run_fits : (m : UnitMap) (at n : ℕ) → IsWhole m → is_run_free m at (suc n) ≡ true → at + suc n ≤ length m.used
run_fits m at n whole free =
    let last = run_is m at (suc n) free (at + n) (omega arith) (omega arith) in
    let p = three_true (leb m.first (at + n)) (ltb (at + n) m.units) (not (get_or m.used (at + n) true)) last in
    omega (arith, ltb-true (at + n) m.units p.1, whole)

-- each unit of it is free
pub run_unused : (m : UnitMap) (at n : ℕ) → IsWhole m → is_run_free m at n ≡ true → (k : ℕ) → at ≤ k → k < at + n → get_or m.used k false ≡ false
run_unused m at n whole free k low high =
    let p = three_true (leb m.first k) (ltb k m.units) (not (get_or m.used k true)) (run_is m at n free k low high) in
    get_or_default m.used k false true (omega (arith, ltb-true k m.units p.1, whole)) ∙ not_true (get_or m.used k true) p.2

-- what a home makes of its disk's map
pub record IsTaken (m new : UnitMap) (at n : ℕ) : Type 0 where
  pub first : new.first ≡ m.first
  pub units : new.units ≡ m.units
  pub whole : IsWhole new
  pub free : (k : ℕ) → is_free new k ≡ (is_free m k && not (is_in at n k))
  pub used : used_of new ≡ used_of m + n

and_within : (a b c w : Bool) → (a && b && not (cond w true c)) ≡ ((a && b && not c) && not w)
and_within false b c w = refl
and_within true false c w = refl
and_within true true true true = refl
and_within true true true false = refl
and_within true true false true = refl
and_within true true false false = refl

and_true : (b : Bool) → b ≡ (b && true)
and_true true = refl
and_true false = refl

pub taken_is : (m : UnitMap) (at n : ℕ) → IsWhole m → is_run_free m at n ≡ true → IsTaken m (with_run m at n true) at n
taken_is m at zero whole free =
    let same : take at m.used ++ replicate 0 true ++ drop (at + 0) m.used ≡ m.used = ap (λ (xs : List Bool). xs ++ drop (at + 0) m.used) (append-nil (take at m.used)) ∙ ap (λ (j : ℕ). take at m.used ++ drop j m.used) (plus_none at) ∙ take-append-drop at m.used in
    record {
      first = refl;
      units = refl;
      whole = ap length same ∙ whole;
      free = λ k. ap (λ (xs : List Bool). leb m.first k && ltb k m.units && not (get_or xs k true)) same ∙ and_true (is_free m k) ∙ ap (λ (b : Bool). is_free m k && not b) (sym (none_in k));
      used = ap (count_by (λ used. used)) same ∙ omega arith;
    }
  where
    plus_none : (j : ℕ) → j + 0 ≡ j
    plus_none j = omega arith

    none_in : (k : ℕ) → is_in at 0 k ≡ false
    none_in k = elim (cases_lt k at) [
      | inl before ↦ rw (lt-leb at k before) refl
      | inr from ↦ rw (le-ltb k (at + 0) (omega (arith, from))) (and_false (leb at k))
    ]
taken_is m at (suc n) whole free =
    let fits = run_fits m at n whole free in
    let xs = m.used in
    let long : length (take at m.used ++ replicate (suc n) true ++ drop (at + suc n) m.used) ≡ length m.used =
    omega (arith, length-append (take at m.used ++ replicate (suc n) true) (drop (at + suc n) m.used), length-append (take at m.used) (replicate (suc n) true), length-take at m.used, length-replicate (suc n) true, length-drop (at + suc n) m.used, fits) in
    let change : used_of (with_run m at (suc n) true) + suc n * 0 ≡ used_of m + suc n * 1 = count_replaced m.used at (suc n) false true fits (run_unused m at (suc n) whole free) in
    record {
      first = refl;
      units = refl;
      whole = long ∙ whole;
      free = λ k. ap (λ (b : Bool). leb m.first k && ltb k m.units && not b) (replaced m.used at (suc n) true k true fits) ∙ and_within (leb m.first k) (ltb k m.units) (get_or m.used k true) (is_in at (suc n) k);
      used = omega (arith, change);
    }

-- ---- homes one after the other

-- the map of disk d behind these homes
pub record IsBehind (d : ℕ) (ps : List Placed) (m new : UnitMap) : Type 0 where
  pub first : new.first ≡ m.first
  pub units : new.units ≡ m.units
  pub free : (k : ℕ) → is_free new k ≡ (is_free m k && is_free_run ps d 1 k)
  pub used : used_of new ≡ used_of m + units_on d ps

pub record Behind (d : ℕ) (ps : List Placed) (m : UnitMap) (ms : List UnitMap) : Type 0 where
  pub new : UnitMap
  pub there : slice_get ms d ≡ Some new
  pub is : IsBehind d ps m new

-- a home that was taken is one of a map that is there, in which its units are free
pub record Takes (ms next : List UnitMap) (h : Home) (n : ℕ) : Type 0 where
  pub map_before : UnitMap
  pub there : slice_get ms h.disk ≡ Some map_before
  pub free : is_run_free map_before h.unit n ≡ true
  pub put : next ≡ slice_set ms h.disk (with_run map_before h.unit n true)

pub takes : (ms next : List UnitMap) (h : Home) (n : ℕ) → home_taken ms h n ≡ Some next → Takes ms next h n
takes ms next h n e = by (slice_get ms h.disk) refl e where
  by : (o : Option UnitMap) → slice_get ms h.disk ≡ o → option_and_then (λ m. Some (slice_set ms h.disk m)) (with_used_run o h.unit n) ≡ Some next → Takes ms next h n
  by None is e = absurd (none-some next e)
  by (Some m) is e = in_map (is_run_free m h.unit n) refl e where
    in_map : (b : Bool) → is_run_free m h.unit n ≡ b → option_and_then (λ x. Some (slice_set ms h.disk x)) (cond b (Some (with_run m h.unit n true)) None) ≡ Some next → Takes ms next h n
    in_map false free e = absurd (none-some next e)
    in_map true free e = record { map_before = m; there = is; free = free; put = sym (some_is (slice_set ms h.disk (with_run m h.unit n true)) next e) }

pub set_here : (ms : List UnitMap) (d : ℕ) (old new : UnitMap) → slice_get ms d ≡ Some old → slice_get (slice_set ms d new) d ≡ Some new
set_here ms d old new e =
    let within = slice_get_within ms d old e in
    let long : length ms ≡ length (slice_set ms d new) = sym (length-set ms d new) in
    slice_get_read (slice_set ms d new) (length ms) d new long within (sym (get_or-set_same ms d new new within))

pub set_other : (ms : List UnitMap) (d c : ℕ) (old new : UnitMap) → (d ≡ c → ⊥) → slice_get ms d ≡ Some old → slice_get (slice_set ms c new) d ≡ Some old
set_other ms d c old new apart e =
    let within = slice_get_within ms d old e in
    let long : length ms ≡ length (slice_set ms c new) = sym (length-set ms c new) in
    slice_get_read (slice_set ms c new) (length ms) d old long within (sym (get_or-set_other ms c d new old apart ∙ get_or_from_slice_get ms d old old e))

or_apart : (x b c : Bool) → ((x && not b) && not c) ≡ (x && not (b || c))
or_apart true true c = refl
or_apart true false c = refl
or_apart false b c = refl

next_unit : (at k : ℕ) → leb at k ≡ ltb at (k + 1)
next_unit at k = elim (cases_lt k at) [
  | inl before ↦ lt-leb at k before ∙ sym (le-ltb at (k + 1) (omega (arith, before)))
  | inr from ↦ le-leb at k from ∙ sym (lt-ltb at (k + 1) (omega (arith, from)))
]

-- the home meets unit k of disk d
abbrev meets : ℕ → ℕ → Placed → Bool
meets d k q = eqb q.home.disk d && ltb q.home.unit (k + 1) && ltb k (q.home.unit + q.len)

meets_here : (d k : ℕ) (q : Placed) → eqb q.home.disk d ≡ true → meets d k q ≡ is_in q.home.unit q.len k
meets_here d k q on = rw on (ap (λ (b : Bool). b && ltb k (q.home.unit + q.len)) (sym (next_unit q.home.unit k)))

-- a home on the disk, and one on another
here_behind : (d : ℕ) (p : Placed) (ps : List Placed) (m mid new : UnitMap) → p.home.disk ≡ d → IsTaken m mid p.home.unit p.len → IsBehind d ps mid new → IsBehind d (p ∷ ps) m new
here_behind d p ps m mid new on one rest =
    let same : eqb p.home.disk d ≡ true = eq-eqb p.home.disk d on in
    record {
      first = rest.first ∙ one.first;
      units = rest.units ∙ one.units;
      free = λ k. rest.free k ∙ ap (λ (b : Bool). b && is_free_run ps d 1 k) (one.free k) ∙ or_apart (is_free m k) (is_in p.home.unit p.len k) (list_any (meets d k) ps)
          ∙ ap (λ (b : Bool). is_free m k && not (b || list_any (meets d k) ps)) (sym (meets_here d k p same));
      used = rest.used ∙ rw same (omega (arith, one.used));
    }

other_behind : (d : ℕ) (p : Placed) (ps : List Placed) (m new : UnitMap) → (p.home.disk ≡ d → ⊥) → IsBehind d ps m new → IsBehind d (p ∷ ps) m new
other_behind d p ps m new apart rest =
    let other : eqb p.home.disk d ≡ false = ne_eqb p.home.disk d apart in
    record { first = rest.first; units = rest.units; free = λ k. rw other (rest.free k); used = rw other rest.used }

pub behind : (ps : List Placed) (ms next : List UnitMap) (d : ℕ) (m : UnitMap) → IsWhole m → slice_get ms d ≡ Some m → after_homes ms ps ≡ Some next → Behind d ps m next
unfolding after_homes
behind [] ms next d m whole there e =
    record { new = m; there = ap (λ (xs : List UnitMap). slice_get xs d) (sym (some_is ms next e)) ∙ there; is = record { first = refl; units = refl; free = λ k. and_true (is_free m k); used = omega arith } }
behind (p ∷ ps) ms next d m whole there e =
    let b = bind_some (λ (mid : List UnitMap). after_homes mid ps) (home_taken ms p.home p.len) next e in
    let t = takes ms b.0 p.home p.len b.1 in
    by (λ mid x size at rest. behind ps mid next d x size at rest) t b.2 (eqb p.home.disk d) refl
  where
    by : ((mid : List UnitMap) (x : UnitMap) → IsWhole x → slice_get mid d ≡ Some x → after_homes mid ps ≡ Some next → Behind d ps x next)
        → {mid : List UnitMap} → Takes ms mid p.home p.len → after_homes mid ps ≡ Some next → (same : Bool) → eqb p.home.disk d ≡ same → Behind d (p ∷ ps) m next
    by later {mid} t rest true on =
        let at : p.home.disk ≡ d = eqb-true p.home.disk d on in
        let old : t.map_before ≡ m = some_is t.map_before m (sym t.there ∙ ap (slice_get ms) at ∙ there) in
        let free : is_run_free m p.home.unit p.len ≡ true = ap (λ (x : UnitMap). is_run_free x p.home.unit p.len) (sym old) ∙ t.free in
        let one = taken_is m p.home.unit p.len whole free in
        let put : mid ≡ slice_set ms d (with_run m p.home.unit p.len true) = t.put ∙ ap (λ (x : UnitMap). slice_set ms p.home.disk (with_run x p.home.unit p.len true)) old ∙ ap (λ (c : ℕ). slice_set ms c (with_run m p.home.unit p.len true)) at in
        let now : slice_get mid d ≡ Some (with_run m p.home.unit p.len true) = ap (λ (xs : List UnitMap). slice_get xs d) put ∙ set_here ms d m (with_run m p.home.unit p.len true) there in
        let r = later mid (with_run m p.home.unit p.len true) one.whole now rest in
        record { new = r.new; there = r.there; is = here_behind d p ps m (with_run m p.home.unit p.len true) r.new at one r.is }
    by later {mid} t rest false off =
        let apart : p.home.disk ≡ d → ⊥ = eqb-false p.home.disk d off in
        let now : slice_get mid d ≡ Some m = ap (λ (xs : List UnitMap). slice_get xs d) t.put ∙ set_other ms d p.home.disk m (with_run t.map_before p.home.unit p.len true) (λ e. apart (sym e)) there in
        let r = later mid m whole now rest in
        record { new = r.new; there = r.there; is = other_behind d p ps m r.new apart r.is }

-- ---- chunks

pub chunks_are_homes : (step : ℕ) (xs : List Chunked) (ms : List UnitMap) → after_chunks step ms xs ≡ after_homes ms (flat_map (homes_of step) xs)
unfolding after_chunks after_homes
chunks_are_homes step [] ms = refl
chunks_are_homes step (x ∷ xs) ms = by (λ next. chunks_are_homes step xs next) (after_homes ms (homes_of step x)) ∙ sym (after_append ms (homes_of step x) (flat_map (homes_of step) xs)) where
  by : ((next : List UnitMap) → after_chunks step next xs ≡ after_homes next (flat_map (homes_of step) xs)) → (o : Option (List UnitMap))
      → option_and_then (λ next. after_chunks step next xs) o ≡ option_and_then (λ next. after_homes next (flat_map (homes_of step) xs)) o
  by rest None = refl
  by rest (Some next) = rest next

-- ---- disks of which no unit is used

pub unused_at : (s : Shape) (es : List Entry) (d : ℕ) → d < 64 → slice_get (unused_maps s es) d ≡ Some (unused (reserved_units s) (disk_units es d))
unused_at s es d small =
    let f = λ (k : ℕ). unused (reserved_units s) (disk_units es k) in
    slice_get_read (unused_maps s es) 64 d (unused (reserved_units s) (disk_units es d)) (sym (length-map-range_with_len (λ (k : ℕ). unused (reserved_units s) (disk_units es k)) 0 64)) small
    (sym (get_or-map-range_with_len (λ (k : ℕ). unused (reserved_units s) (disk_units es k)) 0 64 d d (unused (reserved_units s) (disk_units es d)) small (omega arith)))

pub unused_free : (first units k : ℕ) → first ≤ k → k < units → is_free (unused first units) k ≡ true
unused_free first units k low high = rw (le-leb first k low, lt-ltb k units high, get_or-replicate units k false true high) refl

pub unused_none : (first units : ℕ) → used_of (unused first units) ≡ 0
unused_none first units = sum_by-replicate (λ (b : Bool). cond b 1 0) units false ∙ omega arith

-- the entry of a disk's number, where numbers ascend
number_least : (es : List Entry) (least : ℕ) (e : Entry) → ascends_from least (numbers es) ≡ true → IsAmong es e → least ≤ e.number
number_least [] least e up h = absurd h
number_least (x ∷ es) least e up (inl same) = leb-true least e.number (ap (λ (y : Entry). leb least y.number) same ∙ (and_parts (leb least x.number) (ascends_from (x.number + 1) (numbers es)) up).0)
number_least (x ∷ es) least e up (inr h) =
    let p = and_parts (leb least x.number) (ascends_from (x.number + 1) (numbers es)) up in
    omega (arith, number_least es (x.number + 1) e p.1 h, leb-true least x.number p.0)

pub units_of_entry : (es : List Entry) (least : ℕ) (e : Entry) → ascends_from least (numbers es) ≡ true → IsAmong es e → disk_units es e.number ≡ e.units
units_of_entry [] least e up h = absurd h
units_of_entry (x ∷ es) least e up (inl same) = subst (λ (y : Entry). disk_units (x ∷ es) y.number ≡ y.units) (sym same) (rw (eq-eqb x.number x.number refl) refl)
units_of_entry (x ∷ es) least e up (inr h) =
    let p = and_parts (leb least x.number) (ascends_from (x.number + 1) (numbers es)) up in
    let above = number_least es (x.number + 1) e p.1 h in
    rw (ne_eqb x.number e.number (λ same. omega (arith, above, same))) (units_of_entry es (x.number + 1) e p.1 h)

pub entry_number : (e : Entry) → is_entry e ≡ true → e.number < 64
unfolding is_entry
entry_number e ok = ltb-true e.number most_disks (and_parts (ltb e.number most_disks) _ ok).0

pub all_by : (P : Entry → Type 0) (es : List Entry) → ((e : Entry) → IsAmong es e → P e) → AllByRecursion P es
all_by P [] each = tt
all_by P (e ∷ es) each = (each e (inl refl), all_by P es (λ f h. each f (inr h)))
