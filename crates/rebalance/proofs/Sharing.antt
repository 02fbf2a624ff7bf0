-- Sums over the disks, and shares of them.
use Rattle.std.proofs.Common.{◌≡◌, ℕ, suc, ◌+◌, ◌-◌, ◌*◌, ◌/◌, ◌<◌, ◌≤◌, Bool, true, false, cond, List, [], ◌∷◌, length, drop, get_or, filter, refl, sym, ap, subst, ◌∙◌, Option, Some, None, arith, eqb, leb}
use Rattle.std.specs.Prelude.{IsSomeAnd, slice_get}
use Rattle.std.specs.List.{range_with_len}
use Rattle.std.proofs.lemmas.Bool.{eqb-true}
use Rattle.std.proofs.lemmas.List.{drop_more, drop_all}
use Rattle.std.proofs.lemmas.Option.{same_Some, none-some}
use Rattle.std.proofs.lemmas.Nat.{div_below}
use Rattle.std.proofs.Math.Nat.{mul-le-mul_right}
use Rattle.asm_group.specs.Shape.{Shape}
use Rattle.asm_formats.specs.Status.{Entry, entry_of}
use Rattle.asm_formats.specs.Items.{Item}
use Rattle.allocator.specs.UnitMaps.{UnitMap, total_of, used_of}
use Rattle.asm_placement.specs.Modes.{is_target}
use Rattle.asm_placement.specs.DiskSets.{set_of, with_bit}
use Rattle.asm_placement.specs.TableDisks.{targets}
use Rattle.asm_placement.specs.Space.{total, used_units, user_units, used_of_all, units_of_all, share, is_above, is_below}
use Rattle.partnership.specs.UnitsOf.{AreUnits, AreUnitsOf}
use Rattle.rebalance.specs.Sums.{Sums, sums_of, sums_at, used_in, total_in, used_at, total_at, with_target, share_of, share_at, is_above_at, is_below_at, is_below_of, below_from}

-- ---- the sums so far

pub record AreSums (ms : List UnitMap) (es : List Entry) (t : Sums) (i : ℕ) : Type 0 where
  pub used : t.used + total (used_at ms) (targets (drop i es)) ≡ total (used_at ms) (targets es)
  pub units : t.units + total (total_at ms) (targets (drop i es)) ≡ total (total_at ms) (targets es)

one_more : (f : Entry → ℕ) (es : List Entry) (i : ℕ) (e : Entry) → i < length es → e ≡ get_or es i e → total f (targets (drop i es)) ≡ cond (is_target e) (f e) 0 + total f (targets (drop (i + 1) es))
one_more f es i e within is =
    ap (λ (l : List Entry). total f (targets l)) (drop_more es i e within ∙ ap (λ (x : Entry). x ∷ drop (i + 1) es) (sym is)) ∙ by (is_target e)
  where
    by : (b : Bool) → total f (cond b (e ∷ targets (drop (i + 1) es)) (targets (drop (i + 1) es))) ≡ cond b (f e) 0 + total f (targets (drop (i + 1) es))
    by true = refl
    by false = omega arith

pub sums_more : (ms : List UnitMap) (es : List Entry) (t next : Sums) (i : ℕ) (e : Entry) → i < length es → e ≡ get_or es i e → next ≡ with_target t ms e → AreSums ms es t i → AreSums ms es next (i + 1)
sums_more ms es t next i e within is next_is so_far =
    let used = one_more (used_at ms) es i e within is in
    let units = one_more (total_at ms) es i e within is in
    let used_then : next.used ≡ t.used + cond (is_target e) (used_at ms e) 0 = ap (λ (n : Sums). n.used) next_is ∙ added_used (is_target e) in
    let units_then : next.units ≡ t.units + cond (is_target e) (total_at ms e) 0 = ap (λ (n : Sums). n.units) next_is ∙ added_units (is_target e) in
    record {
      used = omega (arith, used, used_then, so_far.used);
      units = omega (arith, units, units_then, so_far.units);
    }
  where
    added_used : (b : Bool) → (cond b (record { used = t.used + used_at ms e; units = t.units + total_at ms e }) t).used ≡ t.used + cond b (used_at ms e) 0
    added_used true = refl
    added_used false = omega arith

    added_units : (b : Bool) → (cond b (record { used = t.used + used_at ms e; units = t.units + total_at ms e }) t).units ≡ t.units + cond b (total_at ms e) 0
    added_units true = refl
    added_units false = omega arith

pub sums_start : (ms : List UnitMap) (es : List Entry) (t : Sums) → t ≡ record { used = 0; units = 0 } → AreSums ms es t 0
sums_start ms es t is =
    let used : t.used ≡ 0 = ap (λ (n : Sums). n.used) is in
    let units : t.units ≡ 0 = ap (λ (n : Sums). n.units) is in
    record { used = omega arith; units = omega arith }

pub sums_end : (ms : List UnitMap) (es : List Entry) (t : Sums) (i : ℕ) → length es ≤ i → AreSums ms es t i → t ≡ sums_at ms es
sums_end ms es t i past so_far =
    let used : total (used_at ms) (targets (drop i es)) ≡ 0 = ap (λ (l : List Entry). total (used_at ms) (targets l)) (drop_all i es past) in
    let units : total (total_at ms) (targets (drop i es)) ≡ 0 = ap (λ (l : List Entry). total (total_at ms) (targets l)) (drop_all i es past) in
    let used_is : t.used ≡ total (used_at ms) (targets es) = omega (arith, used, so_far.used) in
    let units_is : t.units ≡ total (total_at ms) (targets es) = omega (arith, units, so_far.units) in
    ap (λ (n : ℕ). record { used = n; units = t.units }) used_is ∙ ap (λ (n : ℕ). record { used = total (used_at ms) (targets es); units = n }) units_is

-- ---- by the records

map_used : (s : Shape) (items : List Item) (e : Entry) (o : Option UnitMap) → IsSomeAnd o (AreUnits s items e) → used_in o ≡ used_units s items e.number
map_used s items e None none = absurd none
map_used s items e (Some m) are = are.used

map_total : (s : Shape) (items : List Item) (e : Entry) (o : Option UnitMap) → IsSomeAnd o (AreUnits s items e) → total_in o ≡ user_units s e
map_total s items e None none = absurd none
map_total s items e (Some m) are = rw (are.first, are.units) refl

all_used : (s : Shape) (items : List Item) (ms : List UnitMap) (es : List Entry) → AreUnitsOf s items es ms → total (used_at ms) (targets es) ≡ used_of_all s items es
all_used s items ms [] are = refl
all_used s items ms (e ∷ es) are = by (is_target e) (all_used s items ms es are.1)
  where
    by : (b : Bool) → total (used_at ms) (targets es) ≡ used_of_all s items es → total (used_at ms) (cond b (e ∷ targets es) (targets es)) ≡ total (λ (f : Entry). used_units s items f.number) (cond b (e ∷ targets es) (targets es))
    by true later = rw (map_used s items e (slice_get ms e.number) are.0, later) refl
    by false later = later

all_units : (s : Shape) (items : List Item) (ms : List UnitMap) (es : List Entry) → AreUnitsOf s items es ms → total (total_at ms) (targets es) ≡ units_of_all s es
all_units s items ms [] are = refl
all_units s items ms (e ∷ es) are = by (is_target e) (all_units s items ms es are.1)
  where
    by : (b : Bool) → total (total_at ms) (targets es) ≡ units_of_all s es → total (total_at ms) (cond b (e ∷ targets es) (targets es)) ≡ total (user_units s) (cond b (e ∷ targets es) (targets es))
    by true later = rw (map_total s items e (slice_get ms e.number) are.0, later) refl
    by false later = later

pub sums_placed : (s : Shape) (items : List Item) (ms : List UnitMap) (es : List Entry) (t : Sums) → AreUnitsOf s items es ms → t ≡ sums_at ms es → t ≡ sums_of s items es
sums_placed s items ms es t are is = is ∙ rw (all_used s items ms es are, all_units s items ms es are) refl

-- the map at the place of a disk that has an entry
pub map_of : (s : Shape) (items : List Item) (ms : List UnitMap) (es : List Entry) (d : ℕ) (e : Entry) → AreUnitsOf s items es ms → entry_of es d ≡ Some e → IsSomeAnd (slice_get ms d) (AreUnits s items e)
unfolding entry_of
map_of s items ms [] d e are found = absurd (none-some e found)
map_of s items ms (x ∷ es) d e are found = by (eqb x.number d) refl found (map_of s items ms es d e are.1)
  where
    by : (b : Bool) → eqb x.number d ≡ b → cond b (Some x) (entry_of es d) ≡ Some e → (entry_of es d ≡ Some e → IsSomeAnd (slice_get ms d) (AreUnits s items e)) → IsSomeAnd (slice_get ms d) (AreUnits s items e)
    by true is same later =
        let at : IsSomeAnd (slice_get ms d) (AreUnits s items x) = subst (λ (n : ℕ). IsSomeAnd (slice_get ms n) (AreUnits s items x)) (eqb-true x.number d is) are.0 in
        subst (λ (y : Entry). IsSomeAnd (slice_get ms d) (AreUnits s items y)) (same_Some x e same) at
    by false is same later = later same

-- the same at the number of the entry
pub own_map : (s : Shape) (items : List Item) (ms : List UnitMap) (es : List Entry) (d : ℕ) (e : Entry) → AreUnitsOf s items es ms → entry_of es d ≡ Some e → IsSomeAnd (slice_get ms e.number) (AreUnits s items e)
unfolding entry_of
own_map s items ms [] d e are found = absurd (none-some e found)
own_map s items ms (x ∷ es) d e are found = by (eqb x.number d) found (own_map s items ms es d e are.1)
  where
    by : (b : Bool) → cond b (Some x) (entry_of es d) ≡ Some e → (entry_of es d ≡ Some e → IsSomeAnd (slice_get ms e.number) (AreUnits s items e)) → IsSomeAnd (slice_get ms e.number) (AreUnits s items e)
    by true same later = subst (λ (y : Entry). IsSomeAnd (slice_get ms y.number) (AreUnits s items y)) (same_Some x e same) are.0
    by false same later = later same

share_is : (s : Shape) (items : List Item) (es : List Entry) (e : Entry) → share_of (sums_of s items es) (user_units s e) ≡ share s items es e
unfolding share_of share
share_is s items es e = refl

share_by : (s : Shape) (items : List Item) (es : List Entry) (e : Entry) (t : Sums) (m : UnitMap) → AreUnits s items e m → t ≡ sums_of s items es → share_of t (total_of m) ≡ share s items es e
share_by s items es e t m are is =
    let units : total_of m ≡ user_units s e = rw (are.first, are.units) refl in
    ap (λ (n : Sums). share_of n (total_of m)) is ∙ ap (share_of (sums_of s items es)) units ∙ share_is s items es e

pub share_placed : (s : Shape) (items : List Item) (ms : List UnitMap) (es : List Entry) (d : ℕ) (e : Entry) (t : Sums) → AreUnitsOf s items es ms → t ≡ sums_of s items es → entry_of es d ≡ Some e → share_at t (slice_get ms d) ≡ share s items es e
share_placed s items ms es d e t are is found = by (slice_get ms d) (map_of s items ms es d e are found)
  where
    by : (o : Option UnitMap) → IsSomeAnd o (AreUnits s items e) → share_at t o ≡ share s items es e
    by None none = absurd none
    by (Some m) units = share_by s items es e t m units is

above_by : (s : Shape) (items : List Item) (es : List Entry) (n : ℕ) (e : Entry) (t : Sums) (o : Option UnitMap) → IsSomeAnd o (AreUnits s items e) → t ≡ sums_of s items es → is_above_at t n o ≡ is_above s items es n e
above_by s items es n e t None none is = absurd none
above_by s items es n e t (Some m) units is = ap (λ (k : ℕ). leb (k + n) (used_of m)) (share_by s items es e t m units is) ∙ ap (λ (k : ℕ). leb (share s items es e + n) k) units.used

pub above_placed : (s : Shape) (items : List Item) (ms : List UnitMap) (es : List Entry) (d n : ℕ) (e : Entry) (t : Sums) → AreUnitsOf s items es ms → t ≡ sums_of s items es → entry_of es d ≡ Some e → is_above_at t n (slice_get ms d) ≡ is_above s items es n e
above_placed s items ms es d n e t are is found = above_by s items es n e t (slice_get ms d) (map_of s items ms es d e are found) is

below_by : (s : Shape) (items : List Item) (es : List Entry) (n : ℕ) (e : Entry) (t : Sums) (o : Option UnitMap) → IsSomeAnd o (AreUnits s items e) → t ≡ sums_of s items es → is_below_at t n o ≡ is_below s items es n e
below_by s items es n e t None none is = absurd none
below_by s items es n e t (Some m) units is = ap (λ (k : ℕ). leb (used_of m + n) k) (share_by s items es e t m units is) ∙ ap (λ (k : ℕ). leb (k + n) (share s items es e)) units.used

pub below_placed : (s : Shape) (items : List Item) (ms : List UnitMap) (es : List Entry) (d n : ℕ) (e : Entry) (t : Sums) → AreUnitsOf s items es ms → t ≡ sums_of s items es → entry_of es d ≡ Some e → is_below_at t n (slice_get ms d) ≡ is_below s items es n e
below_placed s items ms es d n e t are is found = below_by s items es n e t (slice_get ms d) (map_of s items ms es d e are found) is

-- of each disk with an entry, by the place of its number
pub above_number : (s : Shape) (items : List Item) (ms : List UnitMap) (es : List Entry) (n : ℕ) (e : Entry) (t : Sums) → IsSomeAnd (slice_get ms e.number) (AreUnits s items e) → t ≡ sums_of s items es → is_above_at t n (slice_get ms e.number) ≡ is_above s items es n e
above_number s items ms es n e t units is = above_by s items es n e t (slice_get ms e.number) units is

pub below_number : (s : Shape) (items : List Item) (ms : List UnitMap) (es : List Entry) (n : ℕ) (e : Entry) (t : Sums) → IsSomeAnd (slice_get ms e.number) (AreUnits s items e) → t ≡ sums_of s items es → is_below_of t n ms e.number ≡ is_below s items es n e
below_number s items ms es n e t units is = below_by s items es n e t (slice_get ms e.number) units is

-- ---- a share is at most the disk's units

pub share_few : (used units total : ℕ) → used ≤ units → (units ≡ 0 → ⊥) → used * total / units ≤ total
share_few used units total few some =
    let product : used * total ≤ units * total = mul-le-mul_right total few in
    let below : used * total / units < total + 1 = div_below (used * total) units (total + 1) (omega (arith, some)) (omega (arith, product)) in
    omega arith

-- ---- the disks below their shares, as a set

pub set_from : (t : Sums) (n : ℕ) (ms : List UnitMap) (k : ℕ) → k < 64 → below_from t n ms k ≡ cond (is_below_of t n ms k) (with_bit (below_from t n ms (k + 1)) k) (below_from t n ms (k + 1))
unfolding below_from
set_from t n ms k small =
    let e : 64 - k ≡ suc (64 - (k + 1)) = omega arith in
    rw e (by (is_below_of t n ms k) (filter (is_below_of t n ms) (range_with_len (k + 1) (64 - (k + 1)))))
  where
    by : (b : Bool) (rest : List ℕ) → set_of (cond b (k ∷ rest) rest) ≡ cond b (with_bit (set_of rest) k) (set_of rest)
    by true rest = refl
    by false rest = refl

pub set_end : (t : Sums) (n : ℕ) (ms : List UnitMap) (k : ℕ) → 64 ≤ k → 0 ≡ below_from t n ms k
unfolding below_from
set_end t n ms k past =
    let e : 64 - k ≡ 0 = omega arith in
    rw e refl
