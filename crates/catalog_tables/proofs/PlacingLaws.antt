-- Homes that are placed one after the other.
use Rattle.std.proofs.Common.{◌≡◌, ℕ, zero, suc, ◌<◌, ◌≤◌, ◌+◌, ◌*◌, Bool, true, false, cond, ltb, get_or, drop, add-one, List, [], ◌∷◌, ◌++◌, length, Option, Some, None, refl, sym, ap, subst, ◌∙◌, arith, inl, inr, ◌⊎◌}
use Rattle.std.proofs.Math.Nat.{eq-or-lt_of_le}
use Rattle.std.specs.Prelude.{◌↔◌, IfNone, IsTrue, slice_set}
use Rattle.std.proofs.lemmas.List.{drop_more}
use Rattle.std.proofs.Math.ListN.{drop_of_length-le}
use Rattle.std.specs.List.{list_all, range_with_len, slice_get}
use Rattle.std.specs.Option.{option_and_then}
use Rattle.std.proofs.lemmas.Bool.{and_parts, true≢false}
use Rattle.std.proofs.lemmas.Option.{none-some, slice_get_past, slice_get-get_or}
use Rattle.asm_formats.specs.Items.{Home, Homes}
use Rattle.partnership.specs.asm_placement.Layout.{units_of}
use Rattle.partnership.specs.asm_placement.Placed.{Placed, placed_copies, placed_extents}
use Rattle.page_map.specs.allocator.UnitMaps.{IsFreeRun, UnitMap, is_free, with_run}
use Rattle.extent_map.specs.Extents.{Chunked}
use Rattle.asm_base.specs.Chunks.{Chunk}
use Rattle.catalog_tables.specs.Placing.{after_chunks, after_homes, home_placed, home_taken, homes_of, is_run_free, first_misplaced}

either : (b : Bool) → (b ≡ true) ⊎ (b ≡ false)
either true = inl refl
either false = inr refl

-- ---- one home

pub all_in : (p : ℕ → Bool) (at n : ℕ) → list_all p (range_with_len at n) ≡ true → (k : ℕ) → at ≤ k → k < at + n → p k ≡ true
all_in p at zero e k low high = absurd (omega (arith, low, high))
all_in p at (suc n) e k low high =
    let parts = and_parts (p at) (list_all p (range_with_len (at + 1) n)) e in
    elim (eq-or-lt_of_le low) [
      | inl same ↦ ap p (sym same) ∙ parts.0
      | inr later ↦ all_in p (at + 1) n parts.1 k (omega (arith, later)) (omega (arith, high))
    ]

pub from_all : (p : ℕ → Bool) (at n : ℕ) → ((k : ℕ) → at ≤ k → k < at + n → p k ≡ true) → list_all p (range_with_len at n) ≡ true
from_all p at zero each = refl
from_all p at (suc n) each = rw (each at (omega arith) (omega arith)) (from_all p (at + 1) n (λ k low high. each k (omega (arith, low)) (omega (arith, high))))

pub run_is : (m : UnitMap) (at n : ℕ) → is_run_free m at n ≡ true → IsFreeRun m at n
run_is m at n e = all_in (is_free m) at n e

no_run : (m : UnitMap) (at n : ℕ) → (IsFreeRun m at n → ⊥) → is_run_free m at n ≡ false
no_run m at n other = elim (either (is_run_free m at n)) [ inl is ↦ absurd (other (run_is m at n is)) | inr not ↦ not ]

pub no_disk : (ms : List UnitMap) (h : Home) (len : ℕ) → length ms ≤ h.disk → home_taken ms h len ≡ None
no_disk ms h len past = rw (slice_get_past ms h.disk past) refl

pub taken_is : (ms new : List UnitMap) (h : Home) (len : ℕ) (m after : UnitMap) (r : Bool) → slice_get ms h.disk ≡ Some m → IsTrue r ↔ IsFreeRun m h.unit len
    → after ≡ cond r (with_run m h.unit len true) m → new ≡ slice_set ms h.disk after → home_taken ms h len ≡ cond r (Some new) None
taken_is ms new h len m after true there free is put =
    rw (there, from_all (is_free m) h.unit len (free.0 refl)) (ap (λ (x : UnitMap). Some (slice_set ms h.disk x)) (sym is) ∙ ap (λ (xs : List UnitMap). Some xs) (sym put))
taken_is ms new h len m after false there free is put = rw (there, no_run m h.unit len (λ run. true≢false (sym (free.1 run)))) refl

-- ---- rows of homes

pub after_append : (ms : List UnitMap) (ps qs : List Placed) → after_homes ms (ps ++ qs) ≡ option_and_then (λ next. after_homes next qs) (after_homes ms ps)
unfolding after_homes
after_append ms [] qs = refl
after_append ms (p ∷ ps) qs = by (λ next. after_append next ps qs) (home_taken ms p.home p.len) where
  by : ((next : List UnitMap) → after_homes next (ps ++ qs) ≡ option_and_then (λ n. after_homes n qs) (after_homes next ps)) → (next : Option (List UnitMap))
      → option_and_then (λ n. after_homes n (ps ++ qs)) next ≡ option_and_then (λ n. after_homes n qs) (option_and_then (λ n. after_homes n ps) next)
  by rest None = refl
  by rest (Some next) = rest next

-- the homes of an extent, the first of which may be absent
pub one_home : (ms : List UnitMap) (f i len : ℕ) (h : Option Home) (hs : Homes) → after_homes ms (placed_copies f i len (h ∷ hs)) ≡ option_and_then (λ next. after_homes next (placed_copies f i len hs)) (home_placed ms h len)
unfolding after_homes
one_home ms f i len None hs = refl
one_home ms f i len (Some h) hs = refl

pub no_home : (ms : List UnitMap) (f i len : ℕ) → after_homes ms (placed_copies f i len []) ≡ Some ms
unfolding after_homes
no_home ms f i len = refl

pub first_refused : (ms : List UnitMap) (f i len : ℕ) (a b c : Option Home) → home_placed ms a len ≡ None → after_homes ms (placed_copies f i len (a ∷ b ∷ c ∷ [])) ≡ None
first_refused ms f i len a b c e = one_home ms f i len a (b ∷ c ∷ []) ∙ rw e refl

pub second_refused : (ms next : List UnitMap) (f i len : ℕ) (a b c : Option Home) → home_placed ms a len ≡ Some next → home_placed next b len ≡ None → after_homes ms (placed_copies f i len (a ∷ b ∷ c ∷ [])) ≡ None
second_refused ms next f i len a b c e g = one_home ms f i len a (b ∷ c ∷ []) ∙ rw e (one_home next f i len b (c ∷ []) ∙ rw g refl)

last_home : (ms : List UnitMap) (f i len : ℕ) (c : Option Home) (placed : Option (List UnitMap)) → placed ≡ home_placed ms c len → option_and_then (λ next. after_homes next (placed_copies f i len [])) placed ≡ placed
last_home ms f i len c None e = refl
last_home ms f i len c (Some next) e = no_home next f i len

pub third_is : (ms next last : List UnitMap) (f i len : ℕ) (a b c : Option Home) (placed : Option (List UnitMap)) → home_placed ms a len ≡ Some next → home_placed next b len ≡ Some last → home_placed last c len ≡ placed
    → after_homes ms (placed_copies f i len (a ∷ b ∷ c ∷ [])) ≡ placed
third_is ms next last f i len a b c placed e g h =
    one_home ms f i len a (b ∷ c ∷ []) ∙ rw e (one_home next f i len b (c ∷ []) ∙ rw g (one_home last f i len c [] ∙ rw h (last_home last f i len c placed (sym h))))

-- ---- extents and chunks

pub next_extent : (ms next : List UnitMap) (step f i : ℕ) (hs : Homes) (more : List Homes) → after_homes ms (placed_copies f i (units_of step i) hs) ≡ Some next
    → after_homes ms (placed_extents step f i (hs ∷ more)) ≡ after_homes next (placed_extents step f (suc i) more)
next_extent ms next step f i hs more e = after_append ms (placed_copies f i (units_of step i) hs) (placed_extents step f (suc i) more) ∙ rw e refl

pub extent_refused : (ms : List UnitMap) (step f i : ℕ) (hs : Homes) (more : List Homes) → after_homes ms (placed_copies f i (units_of step i) hs) ≡ None → after_homes ms (placed_extents step f i (hs ∷ more)) ≡ None
extent_refused ms step f i hs more e = after_append ms (placed_copies f i (units_of step i) hs) (placed_extents step f (suc i) more) ∙ rw e refl

pub no_extents : (ms : List UnitMap) (step f i : ℕ) → after_homes ms (placed_extents step f i []) ≡ Some ms
unfolding after_homes
no_extents ms step f i = refl

pub next_chunk : (ms next : List UnitMap) (step : ℕ) (x : Chunked) (xs : List Chunked) → after_homes ms (homes_of step x) ≡ Some next
    → (first_misplaced step ms (x ∷ xs) ≡ first_misplaced step next xs) × (after_chunks step ms (x ∷ xs) ≡ after_chunks step next xs)
unfolding first_misplaced after_chunks
next_chunk ms next step x xs e = (rw e refl, rw e refl)

pub chunk_refused : (ms : List UnitMap) (step : ℕ) (x : Chunked) (xs : List Chunked) → after_homes ms (homes_of step x) ≡ None → first_misplaced step ms (x ∷ xs) ≡ Some x.0
unfolding first_misplaced
chunk_refused ms step x xs e = rw e refl

pub no_chunks : (ms : List UnitMap) (step : ℕ) → (first_misplaced step ms [] ≡ None) × (after_chunks step ms [] ≡ Some ms)
unfolding first_misplaced after_chunks
no_chunks ms step = (refl, refl)

-- where a chunk is out of place there are no maps
pub misplaced_none : (step : ℕ) (xs : List Chunked) (ms : List UnitMap) (at : Chunk) → first_misplaced step ms xs ≡ Some at → after_chunks step ms xs ≡ None
unfolding first_misplaced after_chunks
misplaced_none step [] ms at e = absurd (none-some at e)
misplaced_none step (x ∷ xs) ms at e = by (λ next f. misplaced_none step xs next at f) (after_homes ms (homes_of step x)) refl where
  by : ((next : List UnitMap) → first_misplaced step next xs ≡ Some at → after_chunks step next xs ≡ None) → (next : Option (List UnitMap)) → after_homes ms (homes_of step x) ≡ next → after_chunks step ms (x ∷ xs) ≡ None
  by rest None is = rw is refl
  by rest (Some next) is = rw is (rest next (rw is at e))

-- where all homes have units, none is out of place
pub all_placed : (step : ℕ) (xs : List Chunked) (ms next : List UnitMap) (fault : Option Chunk) (there : (all : List UnitMap) × (after_chunks step ms xs ≡ Some all)) → fault ≡ first_misplaced step ms xs → IfNone fault (after_chunks step ms xs ≡ Some next) → after_chunks step ms xs ≡ Some next
all_placed step xs ms next None there e placed = placed
all_placed step xs ms next (Some at) there e placed = absurd (none-some there.0 (sym (misplaced_none step xs ms at (sym e)) ∙ there.1))

-- ---- in loops

pub taken_here : (ms : List UnitMap) {v h : Home} (len : ℕ) (d after : UnitMap) (r : Bool) → v ≡ h → v.disk < length ms → IsTrue r ↔ IsFreeRun (get_or ms v.disk d) v.unit len
    → after ≡ cond r (with_run (get_or ms v.disk d) v.unit len true) (get_or ms v.disk d) → home_taken ms h len ≡ cond r (Some (slice_set ms v.disk after)) None
taken_here ms {v} {h} len d after r same within free is =
    subst (λ (x : Home). home_taken ms x len ≡ cond r (Some (slice_set ms v.disk after)) None) same
    (taken_is ms (slice_set ms v.disk after) v len (get_or ms v.disk d) after r (slice_get-get_or ms v.disk d within) free is refl)

when_true : {A : Type 0} (r : Bool) (x : Option A) (next : A) → x ≡ cond r (Some next) None → r ≡ true → x ≡ Some next
when_true r x next e ok = e ∙ rw ok refl

when_false : {A : Type 0} (r : Bool) (x : Option A) (next : A) → x ≡ cond r (Some next) None → r ≡ false → x ≡ None
when_false r x next e not = e ∙ rw not refl

pub placed_next : (step : ℕ) (ms next : List UnitMap) (x : Chunked) (all left : List Chunked) (homes : List Homes) (r : Bool) (fault : Option Chunk) (after : Option (List UnitMap))
    → homes ≡ x.1 → after_homes ms (placed_extents step x.0.0 (x.0.1 * 256) homes) ≡ cond r (Some next) None → r ≡ true → all ≡ x ∷ left
    → first_misplaced step ms all ≡ fault → after_chunks step ms all ≡ after → (first_misplaced step next left ≡ fault) × (after_chunks step next left ≡ after)
placed_next step ms next x all left homes r fault after same placed ok split f a =
    let e : after_homes ms (homes_of step x) ≡ Some next = ap (λ (hs : List Homes). after_homes ms (placed_extents step x.0.0 (x.0.1 * 256) hs)) (sym same) ∙ when_true r _ next placed ok in
    let n = next_chunk ms next step x left e in
    (sym n.0 ∙ ap (first_misplaced step ms) (sym split) ∙ f, sym n.1 ∙ ap (after_chunks step ms) (sym split) ∙ a)

pub placed_not : (step : ℕ) (ms next : List UnitMap) (x : Chunked) (all left : List Chunked) (homes : List Homes) (r : Bool) (fault : Option Chunk)
    → homes ≡ x.1 → after_homes ms (placed_extents step x.0.0 (x.0.1 * 256) homes) ≡ cond r (Some next) None → r ≡ false → all ≡ x ∷ left
    → first_misplaced step ms all ≡ fault → Some x.0 ≡ fault
placed_not step ms next x all left homes r fault same placed not split f =
    let e : after_homes ms (homes_of step x) ≡ None = ap (λ (hs : List Homes). after_homes ms (placed_extents step x.0.0 (x.0.1 * 256) hs)) (sym same) ∙ when_false r _ next placed not in
    sym (chunk_refused ms step x left e) ∙ ap (first_misplaced step ms) (sym split) ∙ f

pub units_some : (step i n : ℕ) → n ≡ units_of step i → 0 < n
unfolding units_of
units_some step i n e = by (ltb i step) (ltb i (2 * step)) refl refl where
  by : (a b : Bool) → ltb i step ≡ a → ltb i (2 * step) ≡ b → 0 < n
  by true b p q = let f : n ≡ 1 = rw p at e in omega (arith, f)
  by false true p q = let f : n ≡ 4 = rw (p, q) at e in omega (arith, f)
  by false false p q = let f : n ≡ 16 = rw (p, q) at e in omega (arith, f)

pub left_from : (xs : List Homes) (k : ℕ) (hs : Homes) → k < length xs → hs ≡ get_or xs k hs → drop k xs ≡ hs ∷ drop (k + 1) xs
left_from xs k hs within is = drop_more xs k hs within ∙ ap (λ (h : Homes). h ∷ drop (k + 1) xs) (sym is)

pub extent_next : (step f i k n : ℕ) (ms next : List UnitMap) (xs : List Homes) (hs : Homes) (r : Bool) (after : Option (List UnitMap)) → k < length xs → hs ≡ get_or xs k hs → n ≡ units_of step i
    → after_homes ms (placed_copies f i n hs) ≡ cond r (Some next) None → r ≡ true → after_homes ms (placed_extents step f i (drop k xs)) ≡ after
    → after_homes next (placed_extents step f (i + 1) (drop (k + 1) xs)) ≡ after
extent_next step f i k n ms next xs hs r after within is units placed ok e =
    let one : after_homes ms (placed_copies f i (units_of step i) hs) ≡ Some next = ap (λ (m : ℕ). after_homes ms (placed_copies f i m hs)) (sym units) ∙ when_true r _ next placed ok in
    let step_on = next_extent ms next step f i hs (drop (k + 1) xs) one in
    ap (λ (j : ℕ). after_homes next (placed_extents step f j (drop (k + 1) xs))) (add-one i) ∙ sym step_on ∙ ap (λ (ys : List Homes). after_homes ms (placed_extents step f i ys)) (sym (left_from xs k hs within is)) ∙ e

pub extent_not : (step f i k n : ℕ) (ms next : List UnitMap) (xs : List Homes) (hs : Homes) (r : Bool) (after : Option (List UnitMap)) → k < length xs → hs ≡ get_or xs k hs → n ≡ units_of step i
    → after_homes ms (placed_copies f i n hs) ≡ cond r (Some next) None → r ≡ false → after_homes ms (placed_extents step f i (drop k xs)) ≡ after → after ≡ None
extent_not step f i k n ms next xs hs r after within is units placed not e =
    let one : after_homes ms (placed_copies f i (units_of step i) hs) ≡ None = ap (λ (m : ℕ). after_homes ms (placed_copies f i m hs)) (sym units) ∙ when_false r _ next placed not in
    sym e ∙ ap (λ (ys : List Homes). after_homes ms (placed_extents step f i ys)) (left_from xs k hs within is) ∙ extent_refused ms step f i hs (drop (k + 1) xs) one

pub extents_end : (step f i k : ℕ) (ms : List UnitMap) (xs : List Homes) (after : Option (List UnitMap)) → length xs ≤ k → after_homes ms (placed_extents step f i (drop k xs)) ≡ after → after ≡ Some ms
extents_end step f i k ms xs after past e =
    sym e ∙ ap (λ (ys : List Homes). after_homes ms (placed_extents step f i ys)) (drop_of_length-le xs past) ∙ no_extents ms step f i
