-- Homes that are used one after the other, and rows of them.
use Rattle.std.proofs.Common.{◌≡◌, ℕ, ◌+◌, ◌<◌, ◌≤◌, Bool, true, false, cond, get_or, set, take, List, [], ◌∷◌, ◌++◌, length, Option, Some, None, refl, sym, ap, subst, ◌∙◌, arith}
use Rattle.std.specs.Prelude.{◌↔◌, IsTrue, IfSome, slice_set}
use Rattle.std.specs.List.{slice_get}
use Rattle.std.specs.Option.{option_and_then}
use Rattle.std.proofs.lemmas.Bool.{true≢false}
use Rattle.std.proofs.lemmas.List.{length-take, take_more_set}
use Rattle.std.proofs.lemmas.Option.{none-some, slice_get_past, slice_get-get_or}
use Rattle.asm_formats.specs.Items.{Home, Homes}
use Rattle.asm_formats.specs.Status.{Entry, ascends_from}
use Rattle.allocator.proofs.asm_base.Exact.{some_is}
use Rattle.asm_placement.specs.DiskSets.{numbers}
use Rattle.asm_placement.specs.Layout.{units_of}
use Rattle.allocator.specs.UnitMaps.{IsFreeRun, UnitMap, with_run}
use Rattle.partnership.specs.Candidates.{candidates, chosen_homes, is_free_from}
use Rattle.partnership.specs.Rows.{Choosing, IsRow, home_used, homes_for_extent, homes_used}
use Rattle.partnership.proofs.FreeHomes.{chosen_free}
use Rattle.partnership.proofs.Runs.{no_run, run_all, units_long}

pub no_disk : (ms : List UnitMap) (h : Home) (n : ℕ) → length ms ≤ h.disk → home_used n ms (Some h) ≡ None
no_disk ms h n past = rw (slice_get_past ms h.disk past) refl

used_is : (ms new : List UnitMap) (h : Home) (n : ℕ) (m after : UnitMap) (r : Bool) → slice_get ms h.disk ≡ Some m → IsTrue r ↔ IsFreeRun m h.unit n
    → after ≡ cond r (with_run m h.unit n true) m → new ≡ slice_set ms h.disk after → home_used n ms (Some h) ≡ cond r (Some new) None
used_is ms new h n m after true there free is put =
    rw (there, run_all m n h.unit (free.0 refl)) (ap (λ (x : UnitMap). Some (slice_set ms h.disk x)) (sym is) ∙ ap (λ (xs : List UnitMap). Some xs) (sym put))
used_is ms new h n m after false there free is put = rw (there, no_run m n h.unit (λ run. true≢false (sym (free.1 run)))) refl

pub used_here : (ms : List UnitMap) {v h : Home} (n : ℕ) (d after : UnitMap) (r : Bool) → v ≡ h → v.disk < length ms → IsTrue r ↔ IsFreeRun (get_or ms v.disk d) v.unit n
    → after ≡ cond r (with_run (get_or ms v.disk d) v.unit n true) (get_or ms v.disk d) → home_used n ms (Some h) ≡ cond r (Some (slice_set ms v.disk after)) None
used_here ms {v} {h} n d after r same within free is =
    subst (λ (x : Home). home_used n ms (Some x) ≡ cond r (Some (slice_set ms v.disk after)) None) same
    (used_is ms (slice_set ms v.disk after) v n (get_or ms v.disk d) after r (slice_get-get_or ms v.disk d within) free is refl)

-- ---- the homes of an extent

pub first_refused : (ms : List UnitMap) (n : ℕ) (a b c : Option Home) → home_used n ms a ≡ None → homes_used n ms (a ∷ b ∷ c ∷ []) ≡ None
first_refused ms n a b c e = rw e refl

pub second_refused : (ms next : List UnitMap) (n : ℕ) (a b c : Option Home) → home_used n ms a ≡ Some next → home_used n next b ≡ None → homes_used n ms (a ∷ b ∷ c ∷ []) ≡ None
second_refused ms next n a b c e g = rw (e, g) refl

last_home : (o : Option (List UnitMap)) → option_and_then (λ (next : List UnitMap). Some next) o ≡ o
last_home None = refl
last_home (Some next) = refl

pub third_is : (ms next last : List UnitMap) (n : ℕ) (a b c : Option Home) (placed : Option (List UnitMap)) → home_used n ms a ≡ Some next → home_used n next b ≡ Some last → home_used n last c ≡ placed
    → homes_used n ms (a ∷ b ∷ c ∷ []) ≡ placed
third_is ms next last n a b c placed e g h = rw (e, g) (last_home (home_used n last c) ∙ h)

-- the homes that were chosen are free, so they are used now
pub chosen_used : (n : ℕ) (es : List Entry) (ms new : List UnitMap) (copies : ℕ) (hs : Homes) (r : Bool) → ascends_from 0 (numbers es) ≡ true → Some hs ≡ chosen_homes (candidates n es ms) copies
    → homes_used n ms hs ≡ cond r (Some new) None → homes_used n ms hs ≡ Some new
chosen_used n es ms new copies hs r up chosen e = by (chosen_free n es ms copies hs up (sym chosen)) r e
  where
    by : (next : List UnitMap) × (homes_used n ms hs ≡ Some next) → (b : Bool) → homes_used n ms hs ≡ cond b (Some new) None → homes_used n ms hs ≡ Some new
    by there true is = is
    by there false is = absurd (none-some there.0 (sym is ∙ there.1))

-- ---- rows

-- a row with one more extent behind it
row_more : (c : Choosing) (i j : ℕ) (ms mid last : List UnitMap) (xs : List Homes) (hs : Homes) → j ≡ i + length xs → IsRow c i ms xs mid → homes_for_extent c mid j ≡ Some hs → homes_used (units_of c.step j) mid hs ≡ Some last
    → IsRow c i ms (xs ++ hs ∷ []) last
row_more c i j ms mid last [] hs at same chosen used =
    let e : j ≡ i = omega (arith, at) in
    subst (λ (k : ℕ). (homes_for_extent c ms k ≡ Some hs) × ((next : List UnitMap) × (homes_used (units_of c.step k) ms hs ≡ Some next) × (next ≡ last))) e
    (subst (λ (us : List UnitMap). (homes_for_extent c us j ≡ Some hs) × ((next : List UnitMap) × (homes_used (units_of c.step j) us hs ≡ Some next) × (next ≡ last))) (sym same) (chosen, (last, used, refl)))
row_more c i j ms mid last (x ∷ xs) hs at row chosen used =
    (row.0, (row.1.0, row.1.1, row_more c (i + 1) j row.1.0 mid last xs hs (omega (arith, at)) row.1.2 chosen used))

-- one more place of a row
pub place_more : (c : Choosing) (first place j : ℕ) (ms mid last : List UnitMap) (row : List Homes) (hs : Homes) → j ≡ first + place → place < length row → IsRow c first ms (take place row) mid
    → Some hs ≡ homes_for_extent c mid j → homes_used (units_of c.step j) mid hs ≡ Some last → IsRow c first ms (take (place + 1) (set row place hs)) last
place_more c first place j ms mid last row hs at within so_far chosen used =
    subst (λ (xs : List Homes). IsRow c first ms xs last) (sym (take_more_set row place hs within))
    (row_more c first j ms mid last (take place row) hs (omega (arith, at, length-take place row)) so_far (sym chosen) used)

pub some_units : (step i n : ℕ) → n ≡ units_of step i → 0 < n
some_units step i n e = omega (arith, e, units_long step i)
