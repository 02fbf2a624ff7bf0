-- Homes of an extent and of a chunk that are given back.
use Rattle.std.proofs.Common.{◌≡◌, ℕ, suc, ◌+◌, ◌<◌, ◌≤◌, List, [], ◌∷◌, ◌++◌, drop, length, get_or, add-one, Option, Some, sym, ap, subst, ◌∙◌}
use Rattle.catalog_tables.proofs.asm_base.Exact.{bind_some, some_is}
use Rattle.asm_formats.specs.Items.{Home, Homes}
use Rattle.catalog_tables.specs.asm_placement.Layout.{units_of}
use Rattle.catalog_tables.specs.asm_placement.Placed.{placed_copies, placed_extents}
use Rattle.catalog_tables.specs.allocator.UnitMaps.{UnitMap}
use Rattle.catalog_tables.specs.Placing.{after_homes, home_placed}
use Rattle.catalog_tables.proofs.PlacingLaws.{extents_end, left_from, no_home, one_home}
use Rattle.catalog_units.proofs.UnitOrder.{front_last}

-- the homes of an extent, taken one after the other
pub record Three (ms z : List UnitMap) (len : ℕ) (a b c : Option Home) : Type 0 where
  pub one : List UnitMap
  pub two : List UnitMap
  pub first : home_placed ms a len ≡ Some one
  pub second : home_placed one b len ≡ Some two
  pub third : home_placed two c len ≡ Some z

pub three : (ms z : List UnitMap) (f i len : ℕ) (a b c : Option Home) → after_homes ms (placed_copies f i len (a ∷ b ∷ c ∷ [])) ≡ Some z → Three ms z len a b c
three ms z f i len a b c e =
    let p = bind_some (λ (next : List UnitMap). after_homes next (placed_copies f i len (b ∷ c ∷ []))) (home_placed ms a len) z (sym (one_home ms f i len a (b ∷ c ∷ [])) ∙ e) in
    let q = bind_some (λ (next : List UnitMap). after_homes next (placed_copies f i len (c ∷ []))) (home_placed p.0 b len) z (sym (one_home p.0 f i len b (c ∷ [])) ∙ p.2) in
    let r = bind_some (λ (next : List UnitMap). after_homes next (placed_copies f i len [])) (home_placed q.0 c len) z (sym (one_home q.0 f i len c []) ∙ q.2) in
    record { one = p.0; two = q.0; first = p.1; second = q.1; third = r.1 ∙ sym (no_home r.0 f i len) ∙ r.2 }

-- what some maps become when homes are given back: whatever they were before, that is what they are
abbrev pub Given : (List UnitMap → Option (List UnitMap)) → List UnitMap → List UnitMap → Type 0
Given taken old new = (before : List UnitMap) → taken before ≡ Some old → before ≡ new

abbrev copies : ℕ → ℕ → ℕ → Option Home → Option Home → Option Home → List UnitMap → Option (List UnitMap)
copies f i len a b c before = after_homes before (placed_copies f i len (a ∷ b ∷ c ∷ []))

pub third_taken : (f i len : ℕ) (a b c : Option Home) (z : List UnitMap) → (before : List UnitMap) × (after_homes before (placed_copies f i len (a ∷ b ∷ c ∷ [])) ≡ Some z) → (y : List UnitMap) × (home_placed y c len ≡ Some z)
third_taken f i len a b c z taken =
    let t = three taken.0 z f i len a b c taken.1 in
    (t.two, t.third)

pub second_taken : (f i len : ℕ) (a b c : Option Home) (z u : List UnitMap) → (before : List UnitMap) × (after_homes before (placed_copies f i len (a ∷ b ∷ c ∷ [])) ≡ Some z)
    → Given (λ before. home_placed before c len) z u → (y : List UnitMap) × (home_placed y b len ≡ Some u)
second_taken f i len a b c z u taken third =
    let t = three taken.0 z f i len a b c taken.1 in
    (t.one, subst (λ (x : List UnitMap). home_placed t.one b len ≡ Some x) (third t.two t.third) t.second)

pub first_taken : (f i len : ℕ) (a b c : Option Home) (z u v : List UnitMap) → (before : List UnitMap) × (after_homes before (placed_copies f i len (a ∷ b ∷ c ∷ [])) ≡ Some z)
    → Given (λ before. home_placed before c len) z u → Given (λ before. home_placed before b len) u v → (y : List UnitMap) × (home_placed y a len ≡ Some v)
first_taken f i len a b c z u v taken third second =
    let t = three taken.0 z f i len a b c taken.1 in
    let s = subst (λ (x : List UnitMap). home_placed t.one b len ≡ Some x) (third t.two t.third) t.second in
    (taken.0, subst (λ (x : List UnitMap). home_placed taken.0 a len ≡ Some x) (second t.one s) t.first)

pub all_given : (f i len : ℕ) (a b c : Option Home) (z u v w : List UnitMap) → Given (λ before. home_placed before c len) z u → Given (λ before. home_placed before b len) u v → Given (λ before. home_placed before a len) v w
    → Given (λ before. after_homes before (placed_copies f i len (a ∷ b ∷ c ∷ []))) z w
all_given f i len a b c z u v w third second first before e =
    let t = three before z f i len a b c e in
    let s = subst (λ (x : List UnitMap). home_placed t.one b len ≡ Some x) (third t.two t.third) t.second in
    first before (subst (λ (x : List UnitMap). home_placed before a len ≡ Some x) (second t.one s) t.first)

-- ---- the extents of a chunk

-- before the homes of an extent are given back, those of the later extents are behind them
pub extent_first : (step f i k : ℕ) (ms z : List UnitMap) (xs : List Homes) (hs : Homes) → k < length xs → hs ≡ get_or xs k hs → after_homes ms (placed_extents step f i (drop k xs)) ≡ Some z
    → (c : List UnitMap) × (after_homes ms (placed_extents step f (i + 1) (drop (k + 1) xs)) ≡ Some c) × (after_homes c (placed_copies f i (units_of step i) hs) ≡ Some z)
extent_first step f i k ms z xs hs within is e =
    let parts : after_homes ms (placed_copies f i (units_of step i) hs ++ placed_extents step f (suc i) (drop (k + 1) xs)) ≡ Some z =
    ap (λ (ys : List Homes). after_homes ms (placed_extents step f i ys)) (sym (left_from xs k hs within is)) ∙ e in
    let r = front_last ms z (placed_copies f i (units_of step i) hs) (placed_extents step f (suc i) (drop (k + 1) xs)) parts in
    (r.0, ap (λ (j : ℕ). after_homes ms (placed_extents step f j (drop (k + 1) xs))) (add-one i) ∙ r.1, r.2)

pub extent_there : (step f i k n : ℕ) (z : List UnitMap) (xs : List Homes) (hs : Homes) → k < length xs → hs ≡ get_or xs k hs → n ≡ units_of step i → (ms : List UnitMap) → after_homes ms (placed_extents step f i (drop k xs)) ≡ Some z
    → (c : List UnitMap) × (after_homes c (placed_copies f i n hs) ≡ Some z)
extent_there step f i k n z xs hs within is units ms e =
    let r = extent_first step f i k ms z xs hs within is e in
    (r.0, ap (λ (m : ℕ). after_homes r.0 (placed_copies f i m hs)) units ∙ r.2)

pub extent_on : (step f i k n : ℕ) (z new : List UnitMap) (xs : List Homes) (hs : Homes) → k < length xs → hs ≡ get_or xs k hs → n ≡ units_of step i → Given (λ before. after_homes before (placed_copies f i n hs)) z new
    → (ms : List UnitMap) → after_homes ms (placed_extents step f i (drop k xs)) ≡ Some z → after_homes ms (placed_extents step f (i + 1) (drop (k + 1) xs)) ≡ Some new
extent_on step f i k n z new xs hs within is units given ms e =
    let r = extent_first step f i k ms z xs hs within is e in
    r.1 ∙ ap (λ (ys : List UnitMap). Some ys) (given r.0 (ap (λ (m : ℕ). after_homes r.0 (placed_copies f i m hs)) units ∙ r.2))

pub extents_done : (step f i k : ℕ) (z : List UnitMap) (xs : List Homes) → length xs ≤ k → (ms : List UnitMap) → after_homes ms (placed_extents step f i (drop k xs)) ≡ Some z → ms ≡ z
extents_done step f i k z xs past ms e = sym (some_is z ms (extents_end step f i k ms xs (Some z) past e))
