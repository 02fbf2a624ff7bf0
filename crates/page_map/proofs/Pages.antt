-- One page that is taken or given back.
use Rattle.std.proofs.Common.{◌≡◌, ℕ, ◌+◌, ◌-◌, ◌<◌, ◌≤◌, Bool, true, false, cond, leb, eqb, List, ◌++◌, length, take, drop, replicate, get_or, refl, sym, ap, ◌∙◌, subst, arith, inl, inr, Option, Some, None}
use Rattle.std.specs.Prelude.{not, ◌&&◌, ◌↔◌, IsTrue, IfSome, IfNone, MatchOption}
use Rattle.std.proofs.lemmas.Bool.{cases_lt, true≢false, le-leb, lt-leb, lt-ltb, le-ltb, ne_eqb, eq-eqb}
use Rattle.std.proofs.lemmas.List.{length-take, length-drop, length-append, length-replicate, get_or_append_left, get_or-append_right, get_or-take, get_or-drop, get_or-replicate, get_or_default}
use Rattle.allocator.specs.Words.{is_within}
use Rattle.allocator.specs.UnitMaps.{IsFreeRun, HasNoRun, IsLowestRun, IsUsedRun, with_run, with_taken_run, unused}
use Rattle.page_map.specs.Free.{FreeMap, is_page_free, IsFreeMap, IsLeastFreePage}

-- an element of a list of which a run was replaced
replaced : (xs : List Bool) (at n : ℕ) (used : Bool) (k : ℕ) (d : Bool) → at + n ≤ length xs → get_or (take at xs ++ replicate n used ++ drop (at + n) xs) k d ≡ cond (is_within at n k) used (get_or xs k d)
replaced xs at n used k d fits =
    let front : length (take at xs) ≡ at = omega (arith, length-take at xs) in
    let two : length (take at xs ++ replicate n used) ≡ at + n = omega (arith, length-append (take at xs) (replicate n used), front, length-replicate n used) in
    elim (cases_lt k at) [
      | inl before ↦ rw (lt-leb at k before) (get_or_append_left (take at xs ++ replicate n used) (drop (at + n) xs) d k (omega arith) ∙ get_or_append_left (take at xs) (replicate n used) d k (omega arith) ∙ get_or-take at xs k d before)
      | inr from ↦ elim (cases_lt k (at + n)) [
        | inl inside ↦ rw (le-leb at k from, lt-ltb k (at + n) inside) (get_or_append_left (take at xs ++ replicate n used) (drop (at + n) xs) d k (omega arith) ∙ get_or-append_right (take at xs) (replicate n used) at k d front from ∙ get_or-replicate n (k - at) used d (omega arith))
        | inr behind ↦
            let e : at + n + (k - (at + n)) ≡ k = omega arith in
            rw (le-leb at k from, le-ltb k (at + n) behind) (get_or-append_right (take at xs ++ replicate n used) (drop (at + n) xs) (at + n) k d two behind ∙ get_or-drop (at + n) xs (k - (at + n)) d ∙ ap (λ (j : ℕ). get_or xs j d) e)
      ]
    ]

pub one_of_run : (m : FreeMap) → IsFreeMap m → (at : ℕ) (used : Bool) → at < m.units → (k : ℕ) → is_page_free (with_run m at 1 used) k ≡ cond (eqb k at) (not used) (is_page_free m k)
one_of_run m sound at used inside k =
    let fits : at + 1 ≤ length m.used = omega (arith, sound.length) in
    let here : get_or (take at m.used ++ replicate 1 used ++ drop (at + 1) m.used) k true ≡ cond (is_within at 1 k) used (get_or m.used k true) = replaced m.used at 1 used k true fits in
    rw here (elim (cases_lt k at) [
      | inl before ↦ rw (lt-leb at k before, ne_eqb k at (λ e. omega arith)) refl
      | inr from ↦ elim (cases_lt at k) [
        | inl behind ↦ rw (le-leb at k from, le-ltb k (at + 1) (omega arith), ne_eqb k at (λ e. omega arith)) refl
        | inr to ↦
            let same : k ≡ at = omega arith in
            rw (le-leb at k from, lt-ltb k (at + 1) (omega arith), eq-eqb k at same, le-leb m.first k (omega (arith, sound.first)), lt-ltb k m.units (omega arith)) refl
      ]
    ])

run_of_one : (m : FreeMap) (b : ℕ) → is_page_free m b ≡ true → IsFreeRun m b 1
run_of_one m b free k low high = let same : b ≡ k = omega arith in subst (λ (j : ℕ). is_page_free m j ≡ true) same free

not_true : (b : Bool) → (b ≡ true → ⊥) → b ≡ false
not_true true h = absurd (h refl)
not_true false h = refl

-- a free page is one of the pages
pub free_inside : (m : FreeMap) (k : ℕ) → is_page_free m k ≡ true → k < m.units
free_inside m k free = elim (cases_lt k m.units) [
  | inl inside ↦ inside
  | inr past ↦ absurd (true≢false (sym free ∙ rw (le-ltb k m.units past) (outside (leb m.first k) (not (get_or m.used k true)))))
] where
  outside : (a b : Bool) → ((a && false) && b) ≡ false
  outside true b = refl
  outside false b = refl

pub least_is : (m : FreeMap) (found : Option ℕ) → IsFreeMap m → MatchOption found (HasNoRun m 1) (IsLowestRun m 1) → IfSome found (IsLeastFreePage m)
least_is m None sound none = tt
least_is m (Some at) sound lowest = record {
  free = lowest.free at (omega arith) (omega arith);
  inside = free_inside m at (lowest.free at (omega arith) (omega arith));
  least = λ k below. not_true (is_page_free m k) (λ free. lowest.lowest k below (run_of_one m k free));
}

pub taken_is : (m n : FreeMap) (found : Option ℕ) → IsFreeMap m → MatchOption found (HasNoRun m 1) (IsLowestRun m 1) → n ≡ with_taken_run m 1 found
    → IfSome found (λ p. (k : ℕ) → is_page_free n k ≡ cond (eqb k p) false (is_page_free m k))
taken_is m n None sound none e = tt
taken_is m n (Some at) sound lowest e = λ k. rw e (one_of_run m sound at true (free_inside m at (lowest.free at (omega arith) (omega arith))) k)

length_with : (m : FreeMap) → IsFreeMap m → (at : ℕ) (used : Bool) → at < m.units → IsFreeMap (with_run m at 1 used)
length_with m sound at used inside = record {
  first = sound.first;
  length = omega (arith, sound.length, length-append (take at m.used ++ replicate 1 used) (drop (at + 1) m.used), length-append (take at m.used) (replicate 1 used), length-take at m.used, length-replicate 1 used, length-drop (at + 1) m.used);
}

pub sound_taken : (m n : FreeMap) (found : Option ℕ) → IsFreeMap m → MatchOption found (HasNoRun m 1) (IsLowestRun m 1) → n ≡ with_taken_run m 1 found → IsFreeMap n
sound_taken m n None sound none e = rw e sound
sound_taken m n (Some at) sound lowest e = rw e (length_with m sound at true (free_inside m at (lowest.free at (omega arith) (omega arith))))

pub units_taken : (m n : FreeMap) (found : Option ℕ) → n ≡ with_taken_run m 1 found → n.units ≡ m.units
units_taken m n None e = ap (λ (f : FreeMap). f.units) e
units_taken m n (Some at) e = ap (λ (f : FreeMap). f.units) e

pub none_taken : (m n : FreeMap) (found : Option ℕ) → n ≡ with_taken_run m 1 found → IfNone found (n ≡ m)
none_taken m n None e = e
none_taken m n (Some at) e = tt

-- a page that was free is taken
marked_is : (m n : FreeMap) (at : ℕ) (done : Bool) → is_page_free m at ≡ true → (IsTrue done ↔ IsFreeRun m at 1) → n ≡ cond done (with_run m at 1 true) m → n ≡ with_run m at 1 true
marked_is m n at true free is e = e
marked_is m n at false free is e = absurd (true≢false (sym (is.1 (run_of_one m at free))))

pub marked_free : (m n : FreeMap) (at : ℕ) (done : Bool) → IsFreeMap m → is_page_free m at ≡ true → (IsTrue done ↔ IsFreeRun m at 1) → n ≡ cond done (with_run m at 1 true) m
    → (k : ℕ) → is_page_free n k ≡ cond (eqb k at) false (is_page_free m k)
marked_free m n at done sound free is e k = ap (λ (f : FreeMap). is_page_free f k) (marked_is m n at done free is e) ∙ one_of_run m sound at true (free_inside m at free) k

pub sound_given : (m : FreeMap) → IsFreeMap m → (at : ℕ) → at < m.units → IsFreeMap (with_run m at 1 false)
sound_given m sound at inside = length_with m sound at false inside

-- a page that is there and not free is taken
pub used_run : (m : FreeMap) → IsFreeMap m → (at : ℕ) → at < m.units → is_page_free m at ≡ false → IsUsedRun m at 1
used_run m sound at inside taken = record {
  low = omega (arith, sound.first);
  high = omega arith;
  used = λ k low high.
      let same : k ≡ at = omega arith in
      let e : is_page_free m at ≡ not (get_or m.used at true) = rw (le-leb m.first at (omega (arith, sound.first)), lt-ltb at m.units inside) refl in
      rw same (is_true at (omega (arith, sound.length)) (sym e ∙ taken));
} where
  is_true : (j : ℕ) → j < length m.used → not (get_or m.used j true) ≡ false → get_or m.used j false ≡ true
  is_true j lt e = default j lt ∙ back (get_or m.used j true) e where
    back : (b : Bool) → not b ≡ false → b ≡ true
    back true e = refl
    back false e = absurd (true≢false e)

    default : (j : ℕ) → j < length m.used → get_or m.used j false ≡ get_or m.used j true
    default j lt = get_or_default m.used j false true lt

pub fresh_is : (pages : ℕ) → IsFreeMap (unused 0 pages)
fresh_is pages = record { first = refl; length = length-replicate pages false }

pub fresh_free : (pages k : ℕ) → k < pages → is_page_free (unused 0 pages) k ≡ true
fresh_free pages k inside = rw (le-leb 0 k (omega arith), lt-ltb k pages inside, get_or-replicate pages k false true inside) refl
