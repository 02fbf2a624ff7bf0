-- A stale mark is that of a copy that has a home.
use Rattle.std.proofs.Common.{◌≡◌, ℕ, zero, suc, ◌+◌, ◌<◌, ◌≤◌, ◌^◌, Bool, true, false, get_or, inl, inr, List, [], ◌∷◌, length, Option, Some, None, refl, sym, ap, ◌∙◌, arith}
use Rattle.std.specs.Prelude.{◌&&◌, ◌/◌, ◌%◌, ◌==◌, not, nat_lt}
use Rattle.std.specs.List.{list_all, zip}
use Rattle.std.specs.Option.{is_some, unwrap_or}
use Rattle.std.proofs.lemmas.Bool.{and_parts, cases_lt, eqb-true, ltb-true, ne_eqb}
use Rattle.std.proofs.Math.Nat.{zero-div, div-eq_of_lt, pow-le-pow_right}
use Rattle.asm_group.specs.Shape.{Shape}
use Rattle.asm_formats.specs.Items.{Homes, Item, chunk_len, is_item, marks_item}
use Rattle.asm_formats.specs.Sets.{has_bit}
use Rattle.asm_placement.specs.Tables.{home_of, is_stale}
use Rattle.catalog_laws.specs.extent_map.Extents.{chunk_at}
use Rattle.catalog_laws.proofs.extent_map.Laws.{chunk_total}
use Rattle.catalog_laws.proofs.extent_map.Numbering.{size_of}
use Rattle.catalog_laws.specs.staleness_directory.Marks as stale
use Rattle.catalog_laws.specs.staleness_directory.Marks.{Marked, marks_at}
use Rattle.catalog_laws.specs.catalog_tables.Items.{AreItemsOf}
use Rattle.catalog_laws.specs.catalog_tables.Tables.{Tables}
use Rattle.catalog_laws.specs.catalog_tables.Rules.{KeepsRules, are_chunk_marks, are_marks_of, has_chunk, is_mark_of, is_marked_right, marks_of}
use Rattle.catalog_laws.proofs.catalog.NumberedEntries.{passes_each}
use Rattle.catalog_laws.proofs.catalog_tables.TableItems.{chunks_exact, each_of, found_is}
use Rattle.catalog_laws.proofs.ItemLaws.{stale_are}
use Rattle.group_of.proofs.Extents.{home_by, or_else}
use Rattle.asm_base.specs.Chunks as chunk_order

clash : (b : Bool) → b ≡ true → b ≡ false → ⊥
clash true e f = absurd cc
clash false e f = absurd cc

empty_is : (d : ℕ) → has_bit 0 d ≡ false
unfolding has_bit
empty_is d = ne_eqb (0 / 2 ^ d % 2) 1 (λ e. omega (arith, e, ap (λ (n : ℕ). n % 2) (zero-div (2 ^ d))))

-- a mark has three bits
high_bit : (m k : ℕ) → m < 8 → 3 ≤ k → has_bit m k ≡ false
unfolding has_bit
high_bit m k less high =
    let more : 2 ^ 3 ≤ 2 ^ k = pow-le-pow_right (omega arith) high in
    let none : m / 2 ^ k ≡ 0 = div-eq_of_lt (omega (arith, less, more)) in
    ne_eqb (m / 2 ^ k % 2) 1 (λ e. omega (arith, e, ap (λ (n : ℕ). n % 2) none))

high_at : (ms : List ℕ) (p k : ℕ) → list_all (λ m. nat_lt m 8) ms ≡ true → 3 ≤ k → has_bit (get_or ms p 0) k ≡ false
high_at [] p k all high = empty_is k
high_at (m ∷ ms) zero k all high = high_bit m k (ltb-true m 8 (and_parts (nat_lt m 8) (list_all (λ m. nat_lt m 8) ms) all).0) high
high_at (m ∷ ms) (suc p) k all high = high_at ms p k (and_parts (nat_lt m 8) (list_all (λ m. nat_lt m 8) ms) all).1 high

-- a mark of one extent
marked : (m : ℕ) (hs : Homes) (copy : ℕ) → copy < 3 → are_marks_of (m, hs) ≡ true → has_bit m copy ≡ true → is_some (get_or hs copy None) ≡ true
marked m hs copy few e bit =
    let a = and_parts (is_mark_of m hs 0) (is_mark_of m hs 1 && is_mark_of m hs 2) e in
    let b = and_parts (is_mark_of m hs 1) (is_mark_of m hs 2) a.1 in
    by copy few bit a.0 b.0 b.1
  where
    one : (k : ℕ) → is_mark_of m hs k ≡ true → has_bit m k ≡ true → is_some (get_or hs k None) ≡ true
    one k e bit = or_else (not (has_bit m k)) (is_some (get_or hs k None)) e (ap not bit)

    by : (k : ℕ) → k < 3 → has_bit m k ≡ true → is_mark_of m hs 0 ≡ true → is_mark_of m hs 1 ≡ true → is_mark_of m hs 2 ≡ true → is_some (get_or hs k None) ≡ true
    by zero few bit x y z = one 0 x bit
    by (suc zero) few bit x y z = one 1 y bit
    by (suc (suc zero)) few bit x y z = one 2 z bit
    by (suc (suc (suc k))) few bit x y z = absurd (omega (arith, few))

marked_at : (ms : List ℕ) (homes : List Homes) (p copy : ℕ) → copy < 3 → length ms ≡ length homes → list_all are_marks_of (zip ms homes) ≡ true → has_bit (get_or ms p 0) copy ≡ true
    → is_some (get_or (get_or homes p []) copy None) ≡ true
marked_at [] homes p copy few long e bit = absurd (clash (has_bit 0 copy) bit (empty_is copy))
marked_at (m ∷ ms) [] p copy few long e bit = absurd (omega (arith, long))
marked_at (m ∷ ms) (hs ∷ homes) zero copy few long e bit = marked m hs copy few (and_parts (are_marks_of (m, hs)) (list_all are_marks_of (zip ms homes)) e).0 bit
marked_at (m ∷ ms) (hs ∷ homes) (suc p) copy few long e bit = marked_at ms homes p copy few (omega (arith, long)) (and_parts (are_marks_of (m, hs)) (list_all are_marks_of (zip ms homes)) e).1 bit

long_marks : (f c : ℕ) (ms : List ℕ) → is_item (marks_item f c ms) ≡ true → (length ms ≡ 256) × (list_all (λ m. nat_lt m 8) ms ≡ true)
unfolding is_item
long_marks f c ms e =
    let a = and_parts (nat_lt f (2 ^ 32)) (nat_lt (c + 1) (2 ^ 32) && ((length ms == chunk_len) && list_all (λ m. nat_lt m 8) ms)) e in
    let b = and_parts (nat_lt (c + 1) (2 ^ 32)) ((length ms == chunk_len) && list_all (λ m. nat_lt m 8) ms) a.1 in
    let d = and_parts (length ms == chunk_len) (list_all (λ m. nat_lt m 8) ms) b.1 in
    (eqb-true (length ms) 256 d.0, d.1)

pub marks_are_of_homes : (s : Shape) (t : Tables) (items : List Item) → KeepsRules s t → AreItemsOf t items → (f i copy : ℕ) → is_stale items f i copy ≡ true → is_some (home_of items f i copy) ≡ true
marks_are_of_homes s t items k is f i copy e = ap is_some (home_by t items k.tables is f i copy) ∙ by (marks_at t.stale (f, i / chunk_len)) refl (chunk_at t.extents (f, i / chunk_len)) refl (sym (stale_are t items k.tables is f i copy) ∙ e) where
  by : (o : Option (List ℕ)) → marks_at t.stale (f, i / chunk_len) ≡ o → (p : Option (List Homes)) → chunk_at t.extents (f, i / chunk_len) ≡ p → has_bit (marks_of t f i) copy ≡ true
      → is_some (get_or (get_or (unwrap_or (chunk_at t.extents (f, i / chunk_len)) []) (i % chunk_len) []) copy None) ≡ true
  by None m p c bit = absurd (clash (has_bit 0 copy) (ap (λ (o : Option (List ℕ)). has_bit (get_or (unwrap_or o []) (i % chunk_len) 0) copy) (sym m) ∙ bit) (empty_is copy))
  by (Some ms) m None c bit =
      let there = passes_each (has_chunk t) t.stale k.chunks ((f, i / chunk_len), ms) (found_is chunk_order.chunk_cmp chunk_total chunks_exact (f, i / chunk_len) t.stale ms m) in
      absurd (clash (is_some (chunk_at t.extents (f, i / chunk_len))) there (ap is_some c))
  by (Some ms) m (Some homes) c bit =
      let among = found_is chunk_order.chunk_cmp chunk_total chunks_exact (f, i / chunk_len) t.stale ms m in
      let right : are_chunk_marks (Some homes) ms ≡ true = ap (λ (o : Option (List Homes)). are_chunk_marks o ms) (sym c) ∙ passes_each (is_marked_right t) t.stale k.stale ((f, i / chunk_len), ms) among in
      let long = long_marks f (i / chunk_len) ms (each_of (λ (x : Marked). is_item (stale.item_of_marks x) ≡ true) t.stale ((f, i / chunk_len), ms) k.tables.stale.1 among) in
      let size = size_of t.extents (f, i / chunk_len) homes k.tables.extents.0.1 c in
      let here : has_bit (get_or ms (i % chunk_len) 0) copy ≡ true = ap (λ (o : Option (List ℕ)). has_bit (get_or (unwrap_or o []) (i % chunk_len) 0) copy) (sym m) ∙ bit in
      ap (λ (o : Option (List Homes)). is_some (get_or (get_or (unwrap_or o []) (i % chunk_len) []) copy None)) c
      ∙ elim (cases_lt copy 3) [
        | inl few ↦ marked_at ms homes (i % chunk_len) copy few (long.0 ∙ sym size) right here
        | inr high ↦ absurd (clash (has_bit (get_or ms (i % chunk_len) 0) copy) here (high_at ms (i % chunk_len) copy long.1 high))
      ]
