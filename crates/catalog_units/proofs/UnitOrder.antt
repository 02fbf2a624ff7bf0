-- Homes may be taken in any order, and what was taken last may be given back.
use Rattle.std.proofs.Common.{◌≡◌, ℕ, zero, suc, ◌+◌, ◌<◌, ◌≤◌, Bool, true, false, cond, leb, ltb, get_or, take, drop, replicate, length, List, [], ◌∷◌, ◌++◌, Option, Some, refl, sym, ap, subst, ◌∙◌, arith, inl, inr}
use Rattle.std.specs.Prelude.{◌&&◌, not, slice_set}
use Rattle.std.specs.List.{slice_get}
use Rattle.std.specs.Option.{option_and_then}
use Rattle.std.proofs.lemmas.Bool.{cases_eq, cases_lt, leb-true, ltb-true, le-leb, lt-leb, lt-ltb, le-ltb, true≢false}
use Rattle.std.proofs.lemmas.List.{append-nil, length-take, length-drop, length-append, length-replicate, get_or_default, get_or_past, get_or-set_same, get_or-set_other, set-set, same_lists}
use Rattle.std.proofs.lemmas.Option.{slice_get_within, get_or_from_slice_get}
use Rattle.std.proofs.Math.ListN.{take-append-drop, length-set, set}
use Rattle.asm_formats.specs.Items.{Home}
use Rattle.catalog_tables.specs.asm_placement.Placed.{Placed}
use Rattle.catalog_tables.specs.allocator.UnitMaps.{IsUsedRun, UnitMap, is_free, with_run}
use Rattle.catalog_tables.proofs.asm_base.Exact.{bind_some, some_is}
use Rattle.catalog_tables.specs.Placing.{after_homes, home_taken, is_run_free, with_used_run}
use Rattle.catalog_tables.proofs.HomeUnits.{Takes, and_false, is_in, not_true, replaced, set_here, set_other, takes, three_true}
use Rattle.catalog_tables.proofs.PlacingLaws.{from_all, run_is}

-- ---- a map with a run used, or free

-- a list of which a run was replaced
record Sets (old new : List Bool) (at n : ℕ) (used : Bool) : Type 0 where
  pub long : length new ≡ length old
  pub each : (k : ℕ) (d : Bool) → get_or new k d ≡ cond (is_in at n k) used (get_or old k d)

none_in : (at k : ℕ) → is_in at 0 k ≡ false
none_in at k = elim (cases_lt k at) [
  | inl before ↦ rw (lt-leb at k before) refl
  | inr from ↦ rw (le-ltb k (at + 0) (omega (arith, from))) (and_false (leb at k))
]

sets_run : (xs : List Bool) (at n : ℕ) (used : Bool) → at + n ≤ length xs → Sets xs (take at xs ++ replicate n used ++ drop (at + n) xs) at n used
sets_run xs at n used fits = record {
  long = omega (arith, length-append (take at xs ++ replicate n used) (drop (at + n) xs), length-append (take at xs) (replicate n used), length-take at xs, length-replicate n used, length-drop (at + n) xs, fits);
  each = λ k d. replaced xs at n used k d fits;
}

-- a unit that is free stands in the list
free_stands : (m : UnitMap) (k : ℕ) → is_free m k ≡ true → k < length m.used
free_stands m k free = elim (cases_lt k (length m.used)) [
  | inl inside ↦ inside
  | inr past ↦
      let p = three_true (leb m.first k) (ltb k m.units) (not (get_or m.used k true)) free in
      absurd (true≢false (sym (get_or_past m.used k true past) ∙ not_true (get_or m.used k true) p.2))
]

run_stands : (m : UnitMap) (at n : ℕ) → is_run_free m at (suc n) ≡ true → at + suc n ≤ length m.used
run_stands m at n free = omega (arith, free_stands m (at + n) (run_is m at (suc n) free (at + n) (omega arith) (omega arith)))

run_sets : (m : UnitMap) (at n : ℕ) → is_run_free m at n ≡ true → Sets m.used (with_run m at n true).used at n true
run_sets m at zero free =
    let same : take at m.used ++ replicate 0 true ++ drop (at + 0) m.used ≡ m.used = ap (λ (xs : List Bool). xs ++ drop (at + 0) m.used) (append-nil (take at m.used)) ∙ ap (λ (j : ℕ). take at m.used ++ drop j m.used) (plus_none at) ∙ take-append-drop at m.used in
    record { long = ap length same; each = λ k d. ap (λ (xs : List Bool). get_or xs k d) same ∙ ap (λ (b : Bool). cond b true (get_or m.used k d)) (sym (none_in at k)) }
  where
    plus_none : (j : ℕ) → j + 0 ≡ j
    plus_none j = omega arith
run_sets m at (suc n) free = sets_run m.used at (suc n) true (run_stands m at n free)

-- ---- two runs on one disk

weaker : (a b w c : Bool) → (a && b && not (cond w true c)) ≡ true → ((a && b && not c) ≡ true) × (w ≡ false)
weaker true true true c e = absurd cc
weaker true true false c e = (e, refl)
weaker true false w c e = absurd cc
weaker false b w c e = absurd cc

stronger : (a b w c : Bool) → (a && b && not c) ≡ true → w ≡ false → (a && b && not (cond w true c)) ≡ true
stronger a b true c e f = absurd cc
stronger a b false c e f = e

-- a unit that is free behind a run was free, and isn't of the run
was_free : (m : UnitMap) (at n k : ℕ) → is_run_free m at n ≡ true → is_free (with_run m at n true) k ≡ true → (is_free m k ≡ true) × (is_in at n k ≡ false)
was_free m at n k free e =
    let s = run_sets m at n free in
    weaker (leb m.first k) (ltb k m.units) (is_in at n k) (get_or m.used k true) (sym (ap (λ (b : Bool). leb m.first k && ltb k m.units && not b) (s.each k true)) ∙ e)

still_free : (m : UnitMap) (at n k : ℕ) → is_run_free m at n ≡ true → is_free m k ≡ true → is_in at n k ≡ false → is_free (with_run m at n true) k ≡ true
still_free m at n k free e out =
    let s = run_sets m at n free in
    ap (λ (b : Bool). leb m.first k && ltb k m.units && not b) (s.each k true) ∙ stronger (leb m.first k) (ltb k m.units) (is_in at n k) (get_or m.used k true) e out

inside : (at n k : ℕ) → at ≤ k → k < at + n → is_in at n k ≡ true
inside at n k low high = rw (le-leb at k low, lt-ltb k (at + n) high) refl

outside : (at n k : ℕ) → (at ≤ k → k < at + n → ⊥) → is_in at n k ≡ false
outside at n k not = elim (cases_lt k at) [
  | inl before ↦ rw (lt-leb at k before) refl
  | inr from ↦ elim (cases_lt k (at + n)) [
    | inl within ↦ absurd (not from within)
    | inr behind ↦ rw (le-ltb k (at + n) behind) (and_false (leb at k))
  ]
]

free_first : (m : UnitMap) (at n b l : ℕ) → is_run_free m at n ≡ true → is_run_free (with_run m at n true) b l ≡ true → is_run_free m b l ≡ true
free_first m at n b l free later = from_all (is_free m) b l (λ k low high. (was_free m at n k free (run_is (with_run m at n true) b l later k low high)).0)

free_then : (m : UnitMap) (at n b l : ℕ) → is_run_free m at n ≡ true → is_run_free (with_run m at n true) b l ≡ true → is_run_free (with_run m b l true) at n ≡ true
free_then m at n b l free later = from_all (is_free (with_run m b l true)) at n (λ k low high.
    still_free m b l k (free_first m at n b l free later) (run_is m at n free k low high) (outside b l k (λ from to.
    true≢false (sym (inside at n k low high) ∙ (was_free m at n k free (run_is (with_run m at n true) b l later k from to)).1))))

both_ways : (a b x : Bool) → cond a true (cond b true x) ≡ cond b true (cond a true x)
both_ways true true x = refl
both_ways true false x = refl
both_ways false true x = refl
both_ways false false x = refl

runs_swap : (m : UnitMap) (at n b l : ℕ) → is_run_free m at n ≡ true → is_run_free (with_run m at n true) b l ≡ true → with_run (with_run m b l true) at n true ≡ with_run (with_run m at n true) b l true
runs_swap m at n b l free later =
    let one = run_sets m at n free in
    let two = run_sets (with_run m at n true) b l later in
    let first = run_sets m b l (free_first m at n b l free later) in
    let second = run_sets (with_run m b l true) at n (free_then m at n b l free later) in
    ap (λ (xs : List Bool). record m { used = xs }) (same_lists (with_run (with_run m b l true) at n true).used (with_run (with_run m at n true) b l true).used (second.long ∙ first.long ∙ sym (two.long ∙ one.long)) (λ k d less.
    second.each k d ∙ ap (λ (x : Bool). cond (is_in at n k) true x) (first.each k d) ∙ both_ways (is_in at n k) (is_in b l k) (get_or m.used k d) ∙ sym (two.each k d ∙ ap (λ (x : Bool). cond (is_in b l k) true x) (one.each k d))))

-- ---- two homes

-- the maps with a run of a disk used
abbrev run_taken : List UnitMap → ℕ → ℕ → ℕ → Option (List UnitMap)
run_taken ms d at n = option_and_then (λ m. Some (slice_set ms d m)) (with_used_run (slice_get ms d) at n)

takes_run : (ms next : List UnitMap) (d at n : ℕ) → run_taken ms d at n ≡ Some next → Takes ms next (record { disk = d; unit = at }) n
takes_run ms next d at n e = takes ms next (record { disk = d; unit = at }) n e

made : (ms : List UnitMap) (d at n : ℕ) (m : UnitMap) → slice_get ms d ≡ Some m → is_run_free m at n ≡ true → run_taken ms d at n ≡ Some (slice_set ms d (with_run m at n true))
made ms d at n m there free = rw (there, free) refl

swap_same : (ms a z : List UnitMap) (d at n b l : ℕ) → run_taken ms d at n ≡ Some a → run_taken a d b l ≡ Some z → (c : List UnitMap) × (run_taken ms d b l ≡ Some c) × (run_taken c d at n ≡ Some z)
swap_same ms a z d at n b l e f =
    let t = takes_run ms a d at n e in
    let s = takes_run a z d b l f in
    let m = t.map_before in
    let here : slice_get a d ≡ Some (with_run m at n true) = ap (λ (xs : List UnitMap). slice_get xs d) t.put ∙ set_here ms d m (with_run m at n true) t.there in
    let same : s.map_before ≡ with_run m at n true = some_is s.map_before (with_run m at n true) (sym s.there ∙ here) in
    let later : is_run_free (with_run m at n true) b l ≡ true = ap (λ (x : UnitMap). is_run_free x b l) (sym same) ∙ s.free in
    let end : z ≡ slice_set ms d (with_run (with_run m at n true) b l true) = s.put ∙ ap (λ (x : UnitMap). slice_set a d (with_run x b l true)) same ∙ ap (λ (xs : List UnitMap). slice_set xs d (with_run (with_run m at n true) b l true)) t.put ∙ set-set ms d (with_run m at n true) (with_run (with_run m at n true) b l true) in
    let c = slice_set ms d (with_run m b l true) in (
      c,
      made ms d b l m t.there (free_first m at n b l t.free later),
      made (slice_set ms d (with_run m b l true)) d at n (with_run m b l true) (set_here ms d m (with_run m b l true) t.there) (free_then m at n b l t.free later)
          ∙ ap (λ (xs : List UnitMap). Some xs) (set-set ms d (with_run m b l true) (with_run (with_run m b l true) at n true) ∙ ap (λ (x : UnitMap). slice_set ms d x) (runs_swap m at n b l t.free later) ∙ sym end),
    )

sets_swap : (ms : List UnitMap) (d e : ℕ) (x y : UnitMap) → (d ≡ e → ⊥) → set (set ms d x) e y ≡ set (set ms e y) d x
sets_swap [] d e x y apart = refl
sets_swap (m ∷ ms) zero zero x y apart = absurd (apart refl)
sets_swap (m ∷ ms) zero (suc e) x y apart = refl
sets_swap (m ∷ ms) (suc d) zero x y apart = refl
sets_swap (m ∷ ms) (suc d) (suc e) x y apart = ap (λ (xs : List UnitMap). m ∷ xs) (sets_swap ms d e x y (λ same. apart (ap suc same)))

set_same : (xs : List UnitMap) (d : ℕ) (m : UnitMap) → slice_get xs d ≡ Some m → slice_set xs d m ≡ xs
set_same xs d m there = same_lists (slice_set xs d m) xs (length-set xs d m) (λ k o less. elim (cases_eq k d) [
  | inl same ↦ ap (λ (j : ℕ). get_or (slice_set xs d m) j o) same ∙ get_or-set_same xs d m o (slice_get_within xs d m there) ∙ sym (get_or_from_slice_get xs d m o there) ∙ ap (λ (j : ℕ). get_or xs j o) (sym same)
  | inr apart ↦ get_or-set_other xs d k m o apart
])

-- what stands at another place stood there
other_stood : (xs : List UnitMap) (d e : ℕ) (m new o : UnitMap) → (d ≡ e → ⊥) → slice_get xs d ≡ Some m → slice_get (slice_set xs d new) e ≡ Some o → slice_get xs e ≡ Some o
other_stood xs d e m new o apart there is =
    let two = set_other (slice_set xs d new) e d o m (λ same. apart (sym same)) is in
    ap (λ (ys : List UnitMap). slice_get ys e) (sym (set-set xs d new m ∙ set_same xs d m there)) ∙ two

swap_other : (ms a z : List UnitMap) (d at n e b l : ℕ) → (d ≡ e → ⊥) → run_taken ms d at n ≡ Some a → run_taken a e b l ≡ Some z → (c : List UnitMap) × (run_taken ms e b l ≡ Some c) × (run_taken c d at n ≡ Some z)
swap_other ms a z d at n e b l apart p q =
    let t = takes_run ms a d at n p in
    let s = takes_run a z e b l q in
    let m = t.map_before in
    let o = s.map_before in
    let stood : slice_get ms e ≡ Some o = other_stood ms d e m (with_run m at n true) o apart t.there (ap (λ (xs : List UnitMap). slice_get xs e) (sym t.put) ∙ s.there) in (
      slice_set ms e (with_run o b l true),
      made ms e b l o stood s.free,
      made (slice_set ms e (with_run o b l true)) d at n m (set_other ms d e m (with_run o b l true) apart t.there) t.free
          ∙ ap (λ (xs : List UnitMap). Some xs) (sym (s.put ∙ ap (λ (xs : List UnitMap). slice_set xs e (with_run o b l true)) t.put ∙ sets_swap ms d e (with_run m at n true) (with_run o b l true) apart)),
    )

pub swap : (ms a z : List UnitMap) (g h : Home) (n l : ℕ) → home_taken ms g n ≡ Some a → home_taken a h l ≡ Some z → (c : List UnitMap) × (home_taken ms h l ≡ Some c) × (home_taken c g n ≡ Some z)
swap ms a z g h n l p q = elim (cases_eq g.disk h.disk) [
  | inl same ↦
      let r = swap_same ms a z h.disk g.unit n h.unit l (subst (λ (d : ℕ). run_taken ms d g.unit n ≡ Some a) same p) q in
      (r.0, r.1, subst (λ (d : ℕ). run_taken r.0 d g.unit n ≡ Some z) (sym same) r.2)
  | inr apart ↦ swap_other ms a z g.disk g.unit n h.disk h.unit l apart p q
]

-- ---- rows of homes

joined : (ms a z : List UnitMap) (p : Placed) (ps : List Placed) → home_taken ms p.home p.len ≡ Some a → after_homes a ps ≡ Some z → after_homes ms (p ∷ ps) ≡ Some z
unfolding after_homes
joined ms a z p ps first rest = rw first rest

parted : (ms z : List UnitMap) (p : Placed) (ps : List Placed) → after_homes ms (p ∷ ps) ≡ Some z → (a : List UnitMap) × (home_taken ms p.home p.len ≡ Some a) × (after_homes a ps ≡ Some z)
unfolding after_homes
parted ms z p ps e = bind_some (λ (a : List UnitMap). after_homes a ps) (home_taken ms p.home p.len) z e

none_taken : (ms : List UnitMap) → after_homes ms [] ≡ Some ms
unfolding after_homes
none_taken ms = refl

-- the first home may be taken last
pub first_last : (ms z : List UnitMap) (p : Placed) (ps : List Placed) → after_homes ms (p ∷ ps) ≡ Some z → (c : List UnitMap) × (after_homes ms ps ≡ Some c) × (home_taken c p.home p.len ≡ Some z)
first_last ms z p [] e =
    let b = parted ms z p [] e in
    (ms, none_taken ms, b.1 ∙ sym (none_taken b.0) ∙ b.2)
first_last ms z p (q ∷ ps) e =
    let b = parted ms z p (q ∷ ps) e in
    let c = parted b.0 z q ps b.2 in
    let s = swap ms b.0 c.0 p.home q.home p.len q.len b.1 c.1 in
    let r = first_last s.0 z p ps (joined s.0 c.0 z p ps s.2 c.2) in
    (r.0, joined ms s.0 r.0 q ps s.1 r.1, r.2)

-- the first homes may be taken last
pub front_last : (ms z : List UnitMap) (ps qs : List Placed) → after_homes ms (ps ++ qs) ≡ Some z → (c : List UnitMap) × (after_homes ms qs ≡ Some c) × (after_homes c ps ≡ Some z)
front_last ms z [] qs e = (z, e, none_taken z)
front_last ms z (p ∷ ps) qs e =
    let b = parted ms z p (ps ++ qs) e in
    let later = front_last b.0 z ps qs b.2 in
    let r = first_last ms later.0 p qs (joined ms b.0 later.0 p qs b.1 later.1) in
    (r.0, r.1, joined r.0 later.0 z p ps r.2 later.2)

-- ---- what was taken is given back

-- a run that was taken, and the maps before
pub record Gives (ms before : List UnitMap) (d at n : ℕ) : Type 0 where
  pub map_now : UnitMap
  pub there : slice_get ms d ≡ Some map_now
  pub used : IsUsedRun map_now at n
  pub back : slice_set ms d (with_run map_now at n false) ≡ before

run_given : (m : UnitMap) (at n : ℕ) → is_run_free m at (suc n) ≡ true → with_run (with_run m at (suc n) true) at (suc n) false ≡ m
run_given m at n free =
    let one = run_sets m at (suc n) free in
    let fits = run_stands m at n free in
    let two = sets_run (with_run m at (suc n) true).used at (suc n) false (omega (arith, one.long, fits)) in
    ap (λ (xs : List Bool). record m { used = xs }) (same_lists (with_run (with_run m at (suc n) true) at (suc n) false).used m.used (two.long ∙ one.long) (λ k d less.
    two.each k d ∙ ap (λ (x : Bool). cond (is_in at (suc n) k) false x) (one.each k d) ∙ elim (cases_lt k at) [
      | inl before ↦ rw (lt-leb at k before) refl
      | inr from ↦ elim (cases_lt k (at + suc n)) [
        | inl within ↦ rw (le-leb at k from, lt-ltb k (at + suc n) within) (sym (unused k d from within (omega (arith, less, two.long, one.long))))
        | inr behind ↦ rw (le-leb at k from, le-ltb k (at + suc n) behind) refl
      ]
    ]))
  where
    unused : (k : ℕ) (d : Bool) → at ≤ k → k < at + suc n → k < length m.used → get_or m.used k d ≡ false
    unused k d low high less =
        let p = three_true (leb m.first k) (ltb k m.units) (not (get_or m.used k true)) (run_is m at (suc n) free k low high) in
        get_or_default m.used k d true less ∙ not_true (get_or m.used k true) p.2

pub gives : (before ms : List UnitMap) (h : Home) (n : ℕ) → 0 < n → home_taken before h n ≡ Some ms → Gives ms before h.disk h.unit n
gives before ms h zero some e = absurd (omega (arith, some))
gives before ms h (suc n) some e =
    let t = takes before ms h (suc n) e in
    let m = t.map_before in
    let new = with_run m h.unit (suc n) true in
    let free = run_is m h.unit (suc n) t.free in
    let one = run_sets m h.unit (suc n) t.free in
    let first = three_true (leb m.first h.unit) (ltb h.unit m.units) (not (get_or m.used h.unit true)) (free h.unit (omega arith) (omega arith)) in
    let last = three_true (leb m.first (h.unit + n)) (ltb (h.unit + n) m.units) (not (get_or m.used (h.unit + n) true)) (free (h.unit + n) (omega arith) (omega arith)) in
    record {
      map_now = with_run m h.unit (suc n) true;
      there = ap (λ (xs : List UnitMap). slice_get xs h.disk) t.put ∙ set_here before h.disk m (with_run m h.unit (suc n) true) t.there;
      used = record {
        low = leb-true m.first h.unit first.0;
        high = omega (arith, ltb-true (h.unit + n) m.units last.1);
        used = λ k low high. one.each k false ∙ rw (le-leb h.unit k low, lt-ltb k (h.unit + suc n) high) refl;
      };
      back = ap (λ (xs : List UnitMap). slice_set xs h.disk (with_run (with_run m h.unit (suc n) true) h.unit (suc n) false)) t.put
          ∙ set-set before h.disk (with_run m h.unit (suc n) true) (with_run (with_run m h.unit (suc n) true) h.unit (suc n) false)
          ∙ ap (λ (x : UnitMap). slice_set before h.disk x) (run_given m h.unit n t.free)
          ∙ set_same before h.disk m t.there;
    }

-- of a map that is at the home's place
here_now : (ms : List UnitMap) (d : ℕ) (m x : UnitMap) → slice_get ms d ≡ Some x → m ≡ get_or ms d m → m ≡ x
here_now ms d m x there is = is ∙ get_or_from_slice_get ms d x m there

pub given_used : (ms : List UnitMap) (h : Home) (n : ℕ) (m : UnitMap) → 0 < n → (before : List UnitMap) × (home_taken before h n ≡ Some ms) → m ≡ get_or ms h.disk m → IsUsedRun m h.unit n
given_used ms h n m some taken is =
    let g = gives taken.0 ms h n some taken.1 in
    subst (λ (x : UnitMap). IsUsedRun x h.unit n) (sym (here_now ms h.disk m g.map_now g.there is)) g.used

pub given_all : (ms : List UnitMap) (h : Home) (n : ℕ) (m after : UnitMap) → 0 < n → m ≡ get_or ms h.disk m → after ≡ with_run m h.unit n false
    → (before : List UnitMap) → home_taken before h n ≡ Some ms → before ≡ slice_set ms h.disk after
given_all ms h n m after some is put before taken =
    let g = gives before ms h n some taken in
    sym (ap (λ (x : UnitMap). slice_set ms h.disk x) (put ∙ ap (λ (x : UnitMap). with_run x h.unit n false) (here_now ms h.disk m g.map_now g.there is)) ∙ g.back)

-- the same of the place of a home
pub used_place : (ms : List UnitMap) (h : Home) (d u n : ℕ) (m : UnitMap) → record { disk = d; unit = u } ≡ h → 0 < n → (before : List UnitMap) × (home_taken before h n ≡ Some ms) → m ≡ get_or ms d m → IsUsedRun (get_or ms d m) u n
used_place ms h d u n m view some taken is =
    subst (λ (x : UnitMap). IsUsedRun x u n) is (given_used ms (record { disk = d; unit = u }) n m some (taken.0, ap (λ (x : Home). home_taken taken.0 x n) view ∙ taken.1) is)
