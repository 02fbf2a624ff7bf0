-- The extents of a file in a table are numbered from 0 without a gap.
use Rattle.std.proofs.Common.{◌≡◌, ℕ, zero, suc, ◌+◌, ◌/◌, ◌%◌, ◌<◌, Bool, true, false, cond, eqb, List, [], ◌∷◌, length, get_or, Ordering, Option, Some, None, refl, sym, ap, subst, ◌∙◌, arith, inl, inr, ◌⊎◌}
use Rattle.std.specs.Prelude.{◌&&◌, ◌||◌, not}
use Rattle.std.specs.Ordering.{is_eq, is_lt, nat_cmp, ordering_reverse}
use Rattle.std.specs.declared.cmp.Ordering.TheVariants.{Less, Equal, Greater}
use Rattle.std.specs.BTreeMap.{is_at}
use Rattle.std.specs.List.{AllByRecursion}
use Rattle.std.specs.Option.{unwrap_or}
use Rattle.std.proofs.lemmas.Bool.{and_parts, cases_eq, eqb-true, ne_eqb}
use Rattle.std.proofs.lemmas.Option.{none-some}
use Rattle.asm_formats.specs.Items.{Homes, is_item}
use Rattle.asm_base.specs.Records.{Ascend}
use Rattle.asm_base.proofs.Exact.{some_is, test_some}
use Rattle.extent_map.specs.Extents.{Chunked, IsExtentTable, chunk_at, has_home, has_no_gap, is_behind, is_blank, is_full, item_of_chunk, full_chunk, stand_first, stands_at}
use Rattle.asm_base.specs.Chunks.{Chunk, chunk_cmp, is_chunk_before}
use Rattle.extent_map.specs.Laws.{NumbersExtents}
use Rattle.extent_map.proofs.Laws.{chunk_total, same_chunk}
use Rattle.extent_map.proofs.Values.{chunk_fits}

-- ---- tests

rest_true : (b y : Bool) → cond b false y ≡ true → y ≡ true
rest_true true y e = absurd cc
rest_true false y e = e

pub both_true : (b y : Bool) → cond b y false ≡ true → (b ≡ true) × (y ≡ true)
both_true true y e = (refl, e)
both_true false y e = absurd cc

or_right : (a b : Bool) → (a || b) ≡ true → a ≡ false → b ≡ true
or_right true b e f = absurd cc
or_right false b e f = e

pub clash : (b : Bool) → b ≡ true → b ≡ false → ⊥
clash true e f = absurd cc
clash false e f = absurd cc

-- ---- inside a chunk

not_first : (b y : Bool) → cond (true && b) false y ≡ true → b ≡ false
not_first true y e = absurd cc
not_first false y e = refl

pub first_home : (homes : List Homes) → stand_first true homes ≡ true → has_home (get_or homes 0 []) ≡ false
first_home [] e = refl
first_home (g ∷ gs) e = not_first (has_home g) (stand_first (not (has_home g)) gs) e

at_head : (b : Bool) (homes : List Homes) → stand_first (not b) homes ≡ true → has_home (get_or homes 0 []) ≡ true → b ≡ true
at_head true homes s e = refl
at_head false homes s e = absurd (clash (has_home (get_or homes 0 [])) e (first_home homes s))

pub next_home : (homes : List Homes) (ended : Bool) (p : ℕ) → stand_first ended homes ≡ true → has_home (get_or homes (suc p) []) ≡ true → has_home (get_or homes p []) ≡ true
next_home [] ended p s e = absurd cc
next_home (h ∷ homes) ended zero s e = at_head (has_home h) homes (rest_true (ended && has_home h) (stand_first (not (has_home h)) homes) s) e
next_home (h ∷ homes) ended (suc p) s e = next_home homes (not (has_home h)) p (rest_true (ended && has_home h) (stand_first (not (has_home h)) homes) s) e

blank_first : (homes : List Homes) → is_blank homes ≡ true → has_home (get_or homes 0 []) ≡ false
blank_first [] e = refl
blank_first (h ∷ homes) e = negated (has_home h) (and_parts (not (has_home h)) (is_blank homes) e).0 where
  negated : (b : Bool) → not b ≡ true → b ≡ false
  negated true e = absurd cc
  negated false e = refl

not_blank : (homes : List Homes) → has_home (get_or homes 0 []) ≡ true → is_blank homes ≡ false
not_blank homes e = by (is_blank homes) refl where
  by : (b : Bool) → is_blank homes ≡ b → is_blank homes ≡ false
  by true q = absurd (clash (has_home (get_or homes 0 [])) e (blank_first homes q))
  by false q = q

pub full_at : (homes : List Homes) (p : ℕ) → is_full homes ≡ true → p < length homes → has_home (get_or homes p []) ≡ true
full_at [] p e lt = absurd (omega (arith, lt))
full_at (h ∷ homes) zero e lt = (and_parts (has_home h) (is_full homes) e).0
full_at (h ∷ homes) (suc p) e lt = full_at homes p (and_parts (has_home h) (is_full homes) e).1 (omega (arith, lt))

-- ---- the chunk of a number

pub is_same : (o : Ordering) → is_eq o ≡ true → o ≡ Equal
is_same Less e = absurd cc
is_same Equal e = refl
is_same Greater e = absurd cc

pub less_is : (o : Ordering) → is_lt o ≡ true → o ≡ Less
less_is Less e = refl
less_is Equal e = absurd cc
less_is Greater e = absurd cc

self_cmp : (n : ℕ) → nat_cmp n n ≡ Equal
self_cmp n = grind arith

pub found_self : (f c : ℕ) → is_at (chunk_cmp (f, c)) (f, c) ≡ true
found_self f c = rw (self_cmp f, self_cmp c) refl

abbrev pub found : Chunk → Chunked → Bool
found k x = is_at (chunk_cmp k) x.0

pub either : (b : Bool) → (b ≡ true) ⊎ (b ≡ false)
either true = inl refl
either false = inr refl

-- the chunk that is found is this one, or stands behind it
pub found_or : (k : Chunk) (x : Chunked) (t : List Chunked) (homes : List Homes) → chunk_at (x ∷ t) k ≡ Some homes → ((k ≡ x.0) × (x.1 ≡ homes)) ⊎ ((found k x ≡ false) × (chunk_at t k ≡ Some homes))
found_or k x t homes e = elim (either (found k x)) [
  | inl here ↦ inl (same_chunk k x.0 (is_same (chunk_cmp k x.0) here), some_is x.1 homes (rw here at e))
  | inr other ↦ inr (other, rw other at e)
]

abbrev pub Stands : List Homes → Type 0
Stands homes = stand_first false homes ≡ true

pub all_stand : (t : List Chunked) (past : Option Chunk) (k : Chunk) (homes : List Homes) → has_no_gap past t ≡ true → chunk_at t k ≡ Some homes → Stands homes
all_stand [] past k homes s e = absurd cc
all_stand (x ∷ t) past k homes s e =
    let g = both_true (stands_at past x) (has_no_gap (full_chunk x) t) s in
    elim (found_or k x t homes e) [
      | inl here ↦ subst Stands here.1 (and_parts (stand_first false x.1) (is_blank x.1 || (eqb x.0.1 0 || is_behind past x.0)) g.0).0
      | inr behind ↦ all_stand t (full_chunk x) k homes g.1 behind.1
    ]

-- what is found behind a chunk comes after it
pub comes_after : (x : Chunked) (t : List Chunked) (k : Chunk) (homes : List Homes) → Ascend is_chunk_before (x ∷ t) → chunk_at t k ≡ Some homes → chunk_cmp x.0 k ≡ Less
comes_after x [] k homes up e = absurd cc
comes_after x (y ∷ t) k homes up e = elim (found_or k y t homes e) [
  | inl here ↦ subst (λ (j : Chunk). chunk_cmp x.0 j ≡ Less) (sym here.0) (less_is (chunk_cmp x.0 y.0) up.0)
  | inr behind ↦ chunk_total.trans x.0 y.0 k (less_is (chunk_cmp x.0 y.0) up.0) (comes_after y t k homes up.1 behind.1)
]

pub tail_up : (x : Chunked) (t : List Chunked) → Ascend is_chunk_before (x ∷ t) → Ascend is_chunk_before t
tail_up x [] up = tt
tail_up x (y ∷ t) up = up.1

abbrev pub Full : List Chunked → Chunk → Type 0
Full t k = (homes : List Homes) × (chunk_at t k ≡ Some homes) × (is_full homes ≡ true)

behind_is : (past : Option Chunk) (f c : ℕ) → is_behind past (f, c + 1) ≡ true → past ≡ Some (f, c)
behind_is None f c e = absurd cc
behind_is (Some j) f c e =
    let p = and_parts (eqb j.0 f) (eqb (j.1 + 1) (c + 1)) e in
    let file = eqb-true j.0 f p.0 in
    let number : j.1 ≡ c = omega (arith, eqb-true (j.1 + 1) (c + 1) p.1) in
    ap (λ (n : ℕ). Some (n, j.1)) file ∙ ap (λ (n : ℕ). Some (f, n)) number

not_zero : (c : ℕ) → eqb (c + 1) 0 ≡ false
not_zero c = ne_eqb (c + 1) 0 (λ e. omega (arith, e))

stands_behind : (past : Option Chunk) (f c : ℕ) (homes : List Homes) → stands_at past ((f, c + 1), homes) ≡ true → is_blank homes ≡ false → past ≡ Some (f, c)
stands_behind past f c homes s filled =
    let p = (and_parts (stand_first false homes) (is_blank homes || (eqb (c + 1) 0 || is_behind past (f, c + 1))) s).1 in
    behind_is past f c (or_right (eqb (c + 1) 0) (is_behind past (f, c + 1)) (or_right (is_blank homes) (eqb (c + 1) 0 || is_behind past (f, c + 1)) p filled) (not_zero c))

-- the chunk before one with extents is full
pub full_before : (t : List Chunked) (past : Option Chunk) (f c : ℕ) (homes : List Homes) → has_no_gap past t ≡ true → Ascend is_chunk_before t → chunk_at t (f, c + 1) ≡ Some homes → is_blank homes ≡ false → (past ≡ Some (f, c)) ⊎ Full t (f, c)
full_before [] past f c homes s up e filled = absurd cc
full_before (x ∷ t) past f c homes s up e filled =
    let g = both_true (stands_at past x) (has_no_gap (full_chunk x) t) s in
    elim (found_or (f, c + 1) x t homes e) [
      | inl here ↦
          let same : ((f, c + 1), homes) ≡ x = ap (λ (k : Chunk). (k, homes)) here.0 ∙ ap (λ (hs : List Homes). (x.0, hs)) (sym here.1) in
          inl (stands_behind past f c homes (ap (stands_at past) same ∙ g.0) filled)
      | inr behind ↦ elim (full_before t (full_chunk x) f c homes g.1 (tail_up x t up) behind.1 filled) [
        | inl open_ ↦
            let o = test_some (is_full x.1) x.0 (f, c) open_ in
            let at : found (f, c) x ≡ true = ap (λ (k : Chunk). is_at (chunk_cmp (f, c)) k) o.1 ∙ found_self f c in
            inr (x.1, rw at refl, o.0)
        | inr more ↦
            let less = comes_after x t (f, c) more.0 up more.1 in
            let other : found (f, c) x ≡ false = ap is_eq (chunk_total.antisymm (f, c) x.0 ∙ ap ordering_reverse less) in
            inr (more.0, rw other more.1, more.2)
      ]
    ]

pub size_of : (t : List Chunked) (k : Chunk) (homes : List Homes) → AllByRecursion (λ x. is_item (item_of_chunk x) ≡ true) t → chunk_at t k ≡ Some homes → length homes ≡ 256
size_of [] k homes all e = absurd cc
size_of (x ∷ t) k homes all e = elim (found_or k x t homes e) [
  | inl here ↦ ap length (sym here.1) ∙ (chunk_fits x.0.0 x.0.1 x.1 all.0).0
  | inr behind ↦ size_of t k homes all.1 behind.1
]

-- ---- extents

abbrev Step : ℕ → Type 0
Step i = ((suc i / 256 ≡ i / 256) × (suc i % 256 ≡ suc (i % 256))) ⊎ ((suc i / 256 ≡ i / 256 + 1) × (suc i % 256 ≡ 0) × (i % 256 ≡ 255))

step : (i : ℕ) → Step i
step i = elim (cases_eq (i % 256) 255) [
  | inl last ↦ inr (omega (arith, last), omega (arith, last), last)
  | inr other ↦ inl (omega (arith, other), omega (arith, other))
]

abbrev pub at_place : Option (List Homes) → ℕ → Bool
at_place chunk p = has_home (get_or (unwrap_or chunk []) p [])

pub the_chunk : (o : Option (List Homes)) (p : ℕ) → at_place o p ≡ true → (homes : List Homes) × (o ≡ Some homes) × (has_home (get_or homes p []) ≡ true)
the_chunk None p e = absurd cc
the_chunk (Some homes) p e = (homes, refl, e)

same_chunk_before : (t : List Chunked) (k : Chunk) (p : ℕ) → has_no_gap None t ≡ true → at_place (chunk_at t k) (suc p) ≡ true → at_place (chunk_at t k) p ≡ true
same_chunk_before t k p s e =
    let h = the_chunk (chunk_at t k) (suc p) e in
    rw h.1 (next_home h.0 false p (all_stand t None k h.0 s h.1) h.2)

last_of_chunk : (t : List Chunked) (f c : ℕ) → IsExtentTable t → at_place (chunk_at t (f, c + 1)) 0 ≡ true → at_place (chunk_at t (f, c)) 255 ≡ true
last_of_chunk t f c fits e =
    let h = the_chunk (chunk_at t (f, c + 1)) 0 e in
    elim (full_before t None f c h.0 fits.1 fits.0.0 h.1 (not_blank h.0 h.2)) [
      | inl none ↦ absurd (none-some (f, c) none)
      | inr full ↦ rw full.1 (full_at full.0 255 full.2 (omega (arith, size_of t (f, c) full.0 fits.0.1 full.1)))
    ]

pub numbers_extents : NumbersExtents
numbers_extents t f i fits e = elim (step i) [
  | inl within ↦
      same_chunk_before t (f, i / 256) (i % 256) fits.1 (ap (λ (n : ℕ). at_place (chunk_at t (f, n)) (suc (i % 256))) (sym within.0) ∙ ap (λ (n : ℕ). at_place (chunk_at t (f, suc i / 256)) n) (sym within.1) ∙ e)
  | inr across ↦
      let first : at_place (chunk_at t (f, i / 256 + 1)) 0 ≡ true = ap (λ (n : ℕ). at_place (chunk_at t (f, n)) 0) (sym across.0) ∙ ap (λ (n : ℕ). at_place (chunk_at t (f, suc i / 256)) n) (sym across.1) ∙ e in
      ap (λ (n : ℕ). at_place (chunk_at t (f, i / 256)) n) across.2 ∙ last_of_chunk t f (i / 256) fits first
]
