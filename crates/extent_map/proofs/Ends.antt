-- A table stays one where the last extents of a file change.
use Rattle.std.proofs.Common.{◌≡◌, ℕ, zero, suc, ◌+◌, ◌<◌, Bool, true, false, eqb, List, [], ◌∷◌, Ordering, Option, Some, None, refl, sym, ap, subst, ◌∙◌, arith, inl, inr, ◌⊎◌}
use Rattle.std.specs.Prelude.{◌&&◌, ◌||◌}
use Rattle.std.specs.Ordering.{is_eq, nat_cmp, ordering_reverse, ordering_then}
use Rattle.std.specs.declared.cmp.Ordering.TheVariants.{Less, Equal, Greater}
use Rattle.std.specs.BTreeMap.{is_at}
use Rattle.std.proofs.lemmas.Bool.{eq-eqb, or_left, or_right}
use Rattle.std.proofs.lemmas.Option.{none-some}
use Rattle.asm_formats.specs.Items.{Homes}
use Rattle.asm_base.specs.Records.{Ascend}
use Rattle.asm_base.specs.Tables.{IsItemTable}
use Rattle.asm_base.proofs.Exact.{some_is, test_some}
use Rattle.extent_map.specs.Extents.{Chunked, IsExtentTable, chunk_at, has_no_gap, is_behind, is_blank, is_full, item_of_chunk, full_chunk, stand_first, stands_at}
use Rattle.asm_base.specs.Chunks.{Chunk, chunk_cmp, is_chunk_before}
use Rattle.extent_map.proofs.Laws.{chunk_total, same_chunk}
use Rattle.extent_map.proofs.Numbering.{Full, Stands, all_stand, comes_after, found, found_or, found_self, full_before, is_same, tail_up}

-- ---- the order of chunks

less_parts : (o p : Ordering) → ordering_then o p ≡ Less → (o ≡ Less) ⊎ ((o ≡ Equal) × (p ≡ Less))
less_parts Less p e = inl refl
less_parts Equal p e = inr (refl, e)
less_parts Greater p e = absurd cc

less_number : (n m : ℕ) → nat_cmp n m ≡ Less → n < m
less_number n m e = grind (arith, e)

same_number : (n m : ℕ) → nat_cmp n m ≡ Equal → n ≡ m
same_number n m e = grind (arith, e)

abbrev pub Lower : Chunk → Chunk → Type 0
Lower x y = (x.0 < y.0) ⊎ ((x.0 ≡ y.0) × (x.1 < y.1))

pub lower : (x y : Chunk) → chunk_cmp x y ≡ Less → Lower x y
lower x y e = elim (less_parts (nat_cmp x.0 y.0) (nat_cmp x.1 y.1) e) [
  | inl file ↦ inl (less_number x.0 y.0 file)
  | inr p ↦ inr (same_number x.0 y.0 p.0, less_number x.1 y.1 p.1)
]

-- no chunk stands between two of a file that follow one another
between : (j x k : Chunk) → k.0 ≡ j.0 → k.1 ≡ j.1 + 1 → chunk_cmp j x ≡ Less → chunk_cmp x k ≡ Less → ⊥
between j x k file next a b = none (lower j x a) (lower x k b) where
  none : Lower j x → Lower x k → ⊥
  none (inl p) (inl q) = omega (arith, file, p, q)
  none (inl p) (inr q) = omega (arith, file, p, q.0)
  none (inr p) (inl q) = omega (arith, file, p.0, q)
  none (inr p) (inr q) = omega (arith, next, p.1, q.1)

not_lower : (x y : Chunk) → x.0 ≡ y.0 → x.1 ≡ y.1 + 1 → chunk_cmp x y ≡ Less → ⊥
not_lower x y file next e = none (lower x y e) where
  none : Lower x y → ⊥
  none (inl p) = omega (arith, file, p)
  none (inr p) = omega (arith, next, p.1)

-- ---- the rule, by the chunks that are found

-- the chunk before is the full one past, or a full one of the table
abbrev pub Before : Option Chunk → List Chunked → Chunk → Type 0
Before past t k = (c : ℕ) × (k.1 ≡ c + 1) × ((past ≡ Some (k.0, c)) ⊎ Full t (k.0, c))

abbrev pub Place : Option Chunk → List Chunked → Chunk → List Homes → Type 0
Place past t k homes = (is_blank homes ≡ true) ⊎ ((k.1 ≡ 0) ⊎ Before past t k)

pub record IsRight (past : Option Chunk) (t : List Chunked) (k : Chunk) (homes : List Homes) : Type 0 where
  pub stands : Stands homes
  pub place : Place past t k homes

abbrev pub Rule : Option Chunk → List Chunked → Type 0
Rule past t = (k : Chunk) (homes : List Homes) → chunk_at t k ≡ Some homes → IsRight past t k homes

-- what is past comes before all chunks
abbrev IsPast : Option Chunk → List Chunked → Type 0
IsPast past t = (j k : Chunk) (homes : List Homes) → past ≡ Some j → chunk_at t k ≡ Some homes → chunk_cmp j k ≡ Less

both_hold : (a b : Bool) → a ≡ true → b ≡ true → (a && b) ≡ true
both_hold a b p q = rw (p, q) refl

at_head : (x : Chunked) (t : List Chunked) → chunk_at (x ∷ t) x.0 ≡ Some x.1
at_head x t = rw (found_self x.0.0 x.0.1) refl

is_behind_past : (past : Option Chunk) (k : Chunk) (c : ℕ) → k.1 ≡ c + 1 → past ≡ Some (k.0, c) → is_behind past k ≡ true
is_behind_past past k c next e = rw e (both_hold (eqb k.0 k.0) (eqb (c + 1) k.1) (eq-eqb k.0 k.0 refl) (eq-eqb (c + 1) k.1 (sym next)))

-- the first chunk doesn't stand behind one of the table
not_first : (x : Chunked) (t : List Chunked) (c : ℕ) → Ascend is_chunk_before (x ∷ t) → x.0.1 ≡ c + 1 → Full (x ∷ t) (x.0.0, c) → ⊥
not_first x t c up next full = elim (found_or (x.0.0, c) x t full.0 full.1) [
  | inl here ↦ omega (arith, next, ap (λ (k : Chunk). k.1) here.0)
  | inr behind ↦ not_lower x.0 (x.0.0, c) refl next (comes_after x t (x.0.0, c) full.0 up behind.1)
]

stands_here : (past : Option Chunk) (x : Chunked) (t : List Chunked) → Rule past (x ∷ t) → Ascend is_chunk_before (x ∷ t) → stands_at past x ≡ true
stands_here past x t rule up = both_hold (stand_first false x.1) (is_blank x.1 || (eqb x.0.1 0 || is_behind past x.0)) r.stands (elim r.place [
  | inl blank ↦ or_left (is_blank x.1) (eqb x.0.1 0 || is_behind past x.0) blank
  | inr p ↦ or_right (is_blank x.1) (eqb x.0.1 0 || is_behind past x.0) (elim p [
    | inl none ↦ or_left (eqb x.0.1 0) (is_behind past x.0) (eq-eqb x.0.1 0 none)
    | inr b ↦ or_right (eqb x.0.1 0) (is_behind past x.0) (elim b.2 [
      | inl before ↦ is_behind_past past x.0 b.0 b.1 before
      | inr full ↦ absurd (not_first x t b.0 up b.1 full)
    ])
  ])
]) where
  r : IsRight past (x ∷ t) x.0 x.1
  r = rule x.0 x.1 (at_head x t)

-- a full chunk of the table is the first one or stands behind it
full_on : (x : Chunked) (t : List Chunked) (k : Chunk) → Full (x ∷ t) k → (full_chunk x ≡ Some k) ⊎ Full t k
full_on x t k full = elim (found_or k x t full.0 full.1) [
  | inl here ↦ inl (rw (ap is_full here.1 ∙ full.2) (ap (λ (j : Chunk). Some j) (sym here.0)))
  | inr behind ↦ inr (full.0, behind.1, full.2)
]

rule_on : (past : Option Chunk) (x : Chunked) (t : List Chunked) → Rule past (x ∷ t) → Ascend is_chunk_before (x ∷ t) → IsPast past (x ∷ t) → Rule (full_chunk x) t
rule_on past x t rule up is k homes e = record { stands = r.stands; place = place r.place } where
  after : chunk_cmp x.0 k ≡ Less
  after = comes_after x t k homes up e

  other : found k x ≡ false
  other = ap is_eq (chunk_total.antisymm k x.0 ∙ ap ordering_reverse after)

  r : IsRight past (x ∷ t) k homes
  r = rule k homes (rw other e)

  place : Place past (x ∷ t) k homes → Place (full_chunk x) t k homes
  place (inl blank) = inl blank
  place (inr (inl none)) = inr (inl none)
  place (inr (inr (c, next, inl before))) = absurd (between (k.0, c) x.0 k refl next (is (k.0, c) x.0 x.1 before (at_head x t)) after)
  place (inr (inr (c, next, inr full))) = inr (inr (c, next, full_on x t (k.0, c) full))

past_on : (x : Chunked) (t : List Chunked) → Ascend is_chunk_before (x ∷ t) → IsPast (full_chunk x) t
past_on x t up j k homes e at = let o = test_some (is_full x.1) x.0 j e in subst (λ (i : Chunk). chunk_cmp i k ≡ Less) o.1 (comes_after x t k homes up at)

no_gap : (t : List Chunked) (past : Option Chunk) → Rule past t → Ascend is_chunk_before t → IsPast past t → has_no_gap past t ≡ true
no_gap [] past rule up is = refl
no_gap (x ∷ t) past rule up is = rw (stands_here past x t rule up) (no_gap t (full_chunk x) (rule_on past x t rule up is) (tail_up x t up) (past_on x t up))

pub rule_of : (t : List Chunked) → IsExtentTable t → Rule None t
rule_of t fits k homes e = record { stands = all_stand t None k homes fits.1 e; place = by (is_blank homes) refl k.1 refl } where
  by : (b : Bool) → is_blank homes ≡ b → (n : ℕ) → k.1 ≡ n → Place None t k homes
  by true q n m = inl q
  by false q zero m = inr (inl m)
  by false q (suc c) m =
      let next : k.1 ≡ c + 1 = omega (arith, m) in
      let here : chunk_at t (k.0, c + 1) ≡ Some homes = ap (λ (n : ℕ). chunk_at t (k.0, n)) (sym next) ∙ e in
      elim (full_before t None k.0 c homes fits.1 fits.0.0 here q) [
        | inl none ↦ inr (inr (c, next, inl none))
        | inr full ↦ inr (inr (c, next, inr full))
      ]

-- ---- another chunk

-- the table u is t but for a chunk, which may be gone
pub record IsEdit (t u : List Chunked) (k : Chunk) : Type 0 where
  pub others : (q : Chunk) → is_at (chunk_cmp q) k ≡ false → chunk_at u q ≡ chunk_at t q
  pub items : IsItemTable is_chunk_before item_of_chunk u

pub lower_is_other : (k : Chunk) (c : ℕ) → k.1 ≡ c + 1 → is_at (chunk_cmp (k.0, c)) k ≡ false
lower_is_other k c next = by (is_at (chunk_cmp (k.0, c)) k) refl where
  by : (b : Bool) → is_at (chunk_cmp (k.0, c)) k ≡ b → is_at (chunk_cmp (k.0, c)) k ≡ false
  by true q = absurd (omega (arith, next, ap (λ (j : Chunk). j.1) (same_chunk (k.0, c) k (is_same (chunk_cmp (k.0, c) k) q))))
  by false q = q

pub still_full : (t u : List Chunked) (k : Chunk) → IsEdit t u k → (j : Chunk) → is_at (chunk_cmp j) k ≡ false → Full t j → Full u j
still_full t u k edit j other full = (full.0, edit.others j other ∙ full.1, full.2)

-- what stands at the chunk is right, and behind it are no extents, or it is full if it was
module _ (t u : List Chunked) (k : Chunk) (fits : IsExtentTable t) (edit : IsEdit t u k) (here : (w : List Homes) → chunk_at u k ≡ Some w → IsRight None u k w)
    (behind : (homes : List Homes) → chunk_at t (k.0, k.1 + 1) ≡ Some homes → (is_blank homes ≡ true) ⊎ (Full t k → Full u k)) where
  -- a chunk behind the one that changes has no extents or stands behind a full one, and others stand as before
  place_on : (q : Chunk) (homes : List Homes) → chunk_at t q ≡ Some homes → Place None t q homes → Place None u q homes
  place_on q homes e (inl blank) = inl blank
  place_on q homes e (inr (inl none)) = inr (inl none)
  place_on q homes e (inr (inr (c, next, inl before))) = absurd (none-some (q.0, c) before)
  place_on q homes e (inr (inr (c, next, inr full))) = by (is_at (chunk_cmp (q.0, c)) k) refl where
    by : (b : Bool) → is_at (chunk_cmp (q.0, c)) k ≡ b → Place None u q homes
    by true h =
        let same = same_chunk (q.0, c) k (is_same (chunk_cmp (q.0, c) k) h) in
        let at : chunk_at t (k.0, k.1 + 1) ≡ Some homes = ap (λ (j : Chunk). chunk_at t (j.0, j.1 + 1)) (sym same) ∙ ap (λ (n : ℕ). chunk_at t (q.0, n)) (sym next) ∙ e in
        elim (behind homes at) [
          | inl blank ↦ inl blank
          | inr stays ↦ inr (inr (c, next, inr (subst (λ (j : Chunk). Full u j) (sym same) (stays (subst (λ (j : Chunk). Full t j) same full)))))
        ]
    by false h = inr (inr (c, next, inr (still_full t u k edit (q.0, c) h full)))

  edited_rule : Rule None u
  edited_rule q homes e = by (is_at (chunk_cmp q) k) refl where
    by : (b : Bool) → is_at (chunk_cmp q) k ≡ b → IsRight None u q homes
    by true h =
        let same = same_chunk q k (is_same (chunk_cmp q k) h) in
        subst (λ (j : Chunk). IsRight None u j homes) (sym same) (here homes (ap (chunk_at u) (sym same) ∙ e))
    by false h =
        let at = sym (edit.others q h) ∙ e in
        let r = rule_of t fits q homes at in
        record { stands = r.stands; place = place_on q homes at r.place }

  pub edited_table : IsExtentTable u
  edited_table = (edit.items, no_gap u None edited_rule edit.items.0 (λ j q homes e at. absurd (none-some j e)))

-- the table u is t with these homes in a chunk
pub record IsChange (t u : List Chunked) (k : Chunk) (homes : List Homes) : Type 0 where
  pub here : chunk_at u k ≡ Some homes
  pub edit : IsEdit t u k

-- the chunks before it are full, and the one behind it has no extents
abbrev pub FullBelow : List Chunked → Chunk → Type 0
FullBelow t k = (c : ℕ) → k.1 ≡ c + 1 → Full t (k.0, c)

abbrev pub BlankAbove : List Chunked → Chunk → Type 0
BlankAbove t k = (homes : List Homes) → chunk_at t (k.0, k.1 + 1) ≡ Some homes → is_blank homes ≡ true

module _ (t u : List Chunked) (k : Chunk) (w : List Homes) (fits : IsExtentTable t) (change : IsChange t u k w) where
  abbrev edit : IsEdit t u k
  edit = change.edit

  its_homes : (P : List Homes → Type 0) → P w → (v : List Homes) → chunk_at u k ≡ Some v → P v
  its_homes P is v e = subst P (some_is w v (sym change.here ∙ e)) is

  place_of : FullBelow t k → (n : ℕ) → k.1 ≡ n → Place None u k w
  place_of below zero m = inr (inl m)
  place_of below (suc c) m = let next : k.1 ≡ c + 1 = omega (arith, m) in inr (inr (c, next, inr (still_full t u k edit (k.0, c) (lower_is_other k c next) (below c next))))

  pub changed_table : Stands w → FullBelow t k → BlankAbove t k → IsExtentTable u
  changed_table stands below above =
      edited_table t u k fits edit (its_homes (λ v. IsRight None u k v) (record { stands = stands; place = place_of below k.1 refl })) (λ homes e. inl (above homes e))

  -- where the chunk has extents at the same places as before
  pub replaced_table : (old : List Homes) → chunk_at t k ≡ Some old → stand_first false w ≡ stand_first false old → is_full w ≡ is_full old → is_blank w ≡ is_blank old → IsExtentTable u
  replaced_table old there stands full blank =
      edited_table t u k fits edit (its_homes (λ v. IsRight None u k v) (record { stands = stands ∙ r.stands; place = place r.place })) (λ homes e. inr stays)
    where
      r : IsRight None t k old
      r = rule_of t fits k old there

      place : Place None t k old → Place None u k w
      place (inl none) = inl (blank ∙ none)
      place (inr (inl first)) = inr (inl first)
      place (inr (inr (c, next, inl before))) = absurd (none-some (k.0, c) before)
      place (inr (inr (c, next, inr before))) = inr (inr (c, next, inr (still_full t u k edit (k.0, c) (lower_is_other k c next) before)))

      stays : Full t k → Full u k
      stays is =
          let same : is.0 ≡ old = some_is is.0 old (sym is.1 ∙ there) in
          (w, change.here, full ∙ ap is_full (sym same) ∙ is.2)
