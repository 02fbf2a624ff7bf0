-- A cursor that is followed by a change of one chunk is one of the tables after it.
use Rattle.std.proofs.Common.{◌≡◌, ℕ, suc, ◌+◌, ◌*◌, ◌≤◌, Bool, true, false, ◌&&◌, ◌||◌, cond, List, [], ◌∷◌, length, refl, sym, ap, subst, ◌∙◌, Option, Some, None, arith}
use Rattle.std.specs.Prelude.{nat_lt, ◌^◌, ◌/◌, ◌%◌, replicate, slice_index_or, slice_set}
use Rattle.std.specs.BTreeMap.{is_at}
use Rattle.std.specs.Option.{is_some, unwrap_or}
use Rattle.std.specs.Ordering.{is_eq, is_lt, nat_cmp, ordering_reverse, ordering_then}
use Rattle.std.specs.declared.cmp.Ordering.{Ordering}
use Rattle.std.specs.declared.cmp.Ordering.TheVariants.{Less, Equal, Greater}
use Rattle.std.proofs.lemmas.Bool.{cond_both}
use Rattle.asm_group.specs.Shape.{Shape}
use Rattle.asm_formats.specs.Status.{Entry, Status}
use Rattle.asm_formats.specs.Items.{Homes, is_item}
use Rattle.asm_base.specs.Records.{Ascend}
use Rattle.asm_placement.specs.Layout.{units_of}
use Rattle.asm_placement.specs.Moves.{without_bit}
use Rattle.asm_placement.proofs.MovedCopies.{in_chunk}
use Rattle.catalog_laws.specs.extent_map.Extents.{Chunked, absent_homes, chunk_at, chunks_from, has_home, item_of_chunk, with_chunk, with_extent, with_homes}
use Rattle.asm_base.specs.Chunks.{Chunk, chunk_cmp, is_chunk_before}
use Rattle.catalog_laws.proofs.extent_map.Laws.{chunk_total, same_chunk}
use Rattle.catalog_laws.proofs.extent_map.Lookups.{put_other, set_other}
use Rattle.catalog_laws.specs.staleness_directory.Marks.{Marked, marks_at}
use Rattle.catalog_laws.specs.catalog.ExtentPlans.{homes_moved, marks_changed, marks_or_none, with_marks_at}
use Rattle.catalog_laws.specs.catalog_tables.Tables.{AreTables, Catalogued}
use Rattle.catalog_laws.specs.catalog_tables.Rules.{marks_of}
use Rattle.catalog_laws.proofs.catalog_tables.TableItems.{below, chunks_exact, each_of, found_is, tail_up}
use Rattle.extent_copies.specs.declared.extent.Extent.{Extent}
use Rattle.rebalance.specs.declared.stages.Stage.{Stage}
use Rattle.rebalance.specs.declared.stages.Stage.TheVariants as stage
use Rattle.rebalance.specs.Sums.{Sums, sums_at}
use Rattle.rebalance.specs.Searching.{extent_in_tables}
use Rattle.rebalance.specs.Due.{any_of_chunk, any_of_extents, any_with, is_due, is_due_in, passes_there}
use Rattle.rebalance.proofs.Searching.{chunk_parts}
use Rattle.rebalance.specs.Cursors.{AreClear, IsClearBefore, IsCursor, IsFollowed, IsSameBut, MarksChangeOne, MovesChangeOne, SearchPlaces, copy_count_of_file, places_after, is_passed, passes_at, passes_found, place_after, search_start}

-- ---- the order of chunks

less_is : (o : Ordering) → is_lt o ≡ true → o ≡ Less
less_is Less e = refl
less_is Equal e = absurd cc
less_is Greater e = absurd cc

before_trans : (a b c : Chunk) → is_chunk_before a b ≡ true → is_chunk_before b c ≡ true → is_chunk_before a c ≡ true
before_trans a b c e f = ap is_lt (chunk_total.trans a b c (less_is (chunk_cmp a b) e) (less_is (chunk_cmp b c) f))

equal_is : (o : Ordering) → is_eq o ≡ true → o ≡ Equal
equal_is Less e = absurd cc
equal_is Equal e = refl
equal_is Greater e = absurd cc

not_before : (p : Chunk) → is_chunk_before p p ≡ true → ⊥
not_before p lt = itself (chunk_cmp p p) (chunk_total.antisymm p p) lt where
  itself : (o : Ordering) → o ≡ ordering_reverse o → is_lt o ≡ true → ⊥
  itself Less e lt = absurd cc
  itself Equal e lt = absurd cc
  itself Greater e lt = absurd cc

-- what comes before a passed chunk is passed
passed_on : (place : Option Chunk) (at p : Chunk) → is_passed place at ≡ true → is_chunk_before p at ≡ true → is_passed place p ≡ true
passed_on None at p e f = refl
passed_on (Some first) at p e f = before_trans p at first f e

-- ---- a chunk that is as it was

module _ (c d : Catalogued) (f n : ℕ) (q : ℕ) (before after : Extent → Bool) (same : (x : Extent) → after x ≡ before x) (shape : d.shape ≡ c.shape) (marks : marks_at d.tables.stale (f, q) ≡ marks_at c.tables.stale (f, q)) where
  marks_same : (i : ℕ) → i / 256 ≡ q → marks_of d.tables f i ≡ marks_of c.tables f i
  marks_same i chunk =
      let at : marks_at d.tables.stale (f, i / 256) ≡ marks_at c.tables.stale (f, i / 256) = subst (λ (j : ℕ). marks_at d.tables.stale (f, j) ≡ marks_at c.tables.stale (f, j)) (sym chunk) marks in
      ap (λ (o : Option (List ℕ)). slice_index_or (unwrap_or o []) (i % 256) 0) at

  abbrev extent_with : ℕ → Homes → ℕ → Extent
  extent_with i hs marks = record { id = record { file = f; index = i }; homes = hs; marks = marks; copies = n; units = units_of d.shape.step i }

  extent_same : (i : ℕ) (hs : Homes) → i / 256 ≡ q → extent_in_tables d.shape d.tables f n i hs ≡ extent_in_tables c.shape c.tables f n i hs
  extent_same i hs chunk =
      ap (extent_with i hs) (marks_same i chunk)
      ∙ ap (λ (s : Shape). extent_in_tables s c.tables f n i hs) shape

  row_same : (i : ℕ) (xs : List Homes) → q * 256 ≤ i → i + length xs ≤ q * 256 + 256 → any_of_extents after d.shape d.tables f n i xs ≡ any_of_extents before c.shape c.tables f n i xs
  row_same i [] low high = refl
  row_same i (hs ∷ more) low high =
      let chunk : i / 256 ≡ q = in_chunk q i low (omega (arith, high)) in
      let test : after (extent_in_tables d.shape d.tables f n i hs) ≡ before (extent_in_tables c.shape c.tables f n i hs) = same (extent_in_tables d.shape d.tables f n i hs) ∙ ap before (extent_same i hs chunk) in
      let rest = row_same (suc i) more (omega (arith, low)) (omega (arith, high)) in
      ap (λ (b : Bool). ((has_home hs && nat_lt i (2 ^ 32)) && b) || any_of_extents after d.shape d.tables f n (suc i) more) test
      ∙ ap (λ (b : Bool). passes_there before c.shape c.tables f n i hs || b) rest

module _ (c d : Catalogued) (p : Chunk) (homes : List Homes) (shape : d.shape ≡ c.shape) (marks : marks_at d.tables.stale p ≡ marks_at c.tables.stale p) (copies : copy_count_of_file d.tables p.0 ≡ copy_count_of_file c.tables p.0)
    (before after : Extent → Bool) (same : (x : Extent) → after x ≡ before x) (size : length homes ≡ 256) where
  with_same : (o : Option ℕ) → any_with (λ n. any_of_extents after d.shape d.tables p.0 n (p.1 * 256) homes) o ≡ any_with (λ n. any_of_extents before c.shape c.tables p.0 n (p.1 * 256) homes) o
  with_same None = refl
  with_same (Some n) = row_same c d p.0 n p.1 before after same shape marks (p.1 * 256) homes (omega arith) (omega (arith, size))

  chunk_same : any_of_chunk after d.shape d.tables (p, homes) ≡ any_of_chunk before c.shape c.tables (p, homes)
  chunk_same =
      with_same (copy_count_of_file d.tables p.0)
      ∙ ap (any_with (λ n. any_of_extents before c.shape c.tables p.0 n (p.1 * 256) homes)) copies

-- ---- one place

-- what is asked of the place that a stage has after the change, at the chunk itself and at another
at_itself : (due : Chunked → Bool) (table : List Chunked) (at : Chunk) (place : Option Chunk) (homes : List Homes) → chunk_at table at ≡ Some homes → is_passed (place_after due table at place) at ≡ true → due (at, homes) ≡ false
at_itself due table at place homes found passed = by (is_passed place at) (due (at, homes)) refl refl (subst (λ (o : Option (List Homes)). is_passed (cond (is_passed place at && passes_found due at o) (Some at) place) at ≡ true) found passed)
  where
    by : (b d : Bool) → is_passed place at ≡ b → due (at, homes) ≡ d → is_passed (cond (b && d) (Some at) place) at ≡ true → due (at, homes) ≡ false
    by true true was is passed = absurd (not_before at passed)
    by true false was is passed = is
    by false d was is passed = let both : false ≡ true = sym was ∙ passed in absurd cc

at_other : (due : Chunked → Bool) (table : List Chunked) (at p : Chunk) (place : Option Chunk) → is_passed (place_after due table at place) p ≡ true → is_passed place p ≡ true
at_other due table at p place passed = by (is_passed place at) (passes_at due table at) refl passed where
  by : (b d : Bool) → is_passed place at ≡ b → is_passed (cond (b && d) (Some at) place) p ≡ true → is_passed place p ≡ true
  by true true was passed = passed_on place at p was passed
  by true false was passed = passed
  by false d was passed = passed

clear_after : (g : Stage) (es : List Entry) (c d : Catalogued) (t u : Sums) (at : Chunk) (place : Option Chunk) → AreTables d.tables → ((x : Extent) → is_due g es d.units u x ≡ is_due g es c.units t x) → d.shape ≡ c.shape → IsSameBut at c.tables d.tables
    → IsClearBefore g es c t place → IsClearBefore g es d u (place_after (is_due_in g es d u) d.tables.extents at place)
clear_after g es c d t u at place tables same shape is clear p homes found passed = by (is_at (chunk_cmp p) at) refl where
  size : length homes ≡ 256
  size = (chunk_parts p.0 p.1 homes (each_of (λ (y : Chunked). is_item (item_of_chunk y) ≡ true) d.tables.extents (p, homes) tables.extents.0.1 (found_is chunk_cmp chunk_total chunks_exact p d.tables.extents homes found))).size

  by : (b : Bool) → is_at (chunk_cmp p) at ≡ b → is_due_in g es d u (p, homes) ≡ false
  by true here =
      let one : p ≡ at = chunks_exact p at (equal_is (chunk_cmp p at) here) in
      subst (λ (k : Chunk). is_due_in g es d u (k, homes) ≡ false) (sym one)
      (at_itself (is_due_in g es d u) d.tables.extents at place homes (subst (λ (k : Chunk). chunk_at d.tables.extents k ≡ Some homes) one found)
      (subst (λ (k : Chunk). is_passed (place_after (is_due_in g es d u) d.tables.extents at place) k ≡ true) one passed))
  by false other =
      chunk_same c d p homes shape (is.marks p other) (is.copies p.0) (is_due g es c.units t) (is_due g es d.units u) same size
      ∙ clear p homes (sym (is.chunks p other) ∙ found) (at_other (is_due_in g es d u) d.tables.extents at p place passed)

-- ---- the first chunk

none_below : (p : Chunk) → is_chunk_before p (0, 0) ≡ true → ⊥
none_below p e = by (nat_cmp p.0 0) (nat_cmp p.1 0) (λ is. never p.0 is) (λ is. never p.1 is) e where
  never : (n : ℕ) → nat_cmp n 0 ≡ Less → ⊥
  never n is = grind (arith, is)

  by : (o q : Ordering) → (o ≡ Less → ⊥) → (q ≡ Less → ⊥) → is_lt (ordering_then o q) ≡ true → ⊥
  by Less q first second e = first refl
  by Equal Less first second e = second refl
  by Equal Equal first second e = absurd cc
  by Equal Greater first second e = absurd cc
  by Greater q first second e = absurd cc

pub clear_start : (g : Stage) (es : List Entry) (c : Catalogued) (t : Sums) → IsClearBefore g es c t (Some (0, 0))
clear_start g es c t p homes found passed = absurd (none_below p passed)

pub start_is : (c : Catalogued) (r : Status) → IsCursor c r search_start
start_is c r = record {
  recopy = clear_start stage.Recopy r.entries c (sums_at c.units r.entries);
  fill = clear_start stage.Fill r.entries c (sums_at c.units r.entries);
  shift = clear_start stage.Shift r.entries c (sums_at c.units r.entries);
  lost = clear_start stage.Lost r.entries c (sums_at c.units r.entries);
  no_space = clear_start stage.NoSpace r.entries c (sums_at c.units r.entries);
  balance = clear_start stage.Balance r.entries c (sums_at c.units r.entries);
}

-- ---- all places

pub followed_is : (k : SearchPlaces) (at : Chunk) (d : Catalogued) (q : Status) → AreTables d.tables → IsFollowed at k d q (places_after q.entries d (sums_at d.units q.entries) k at)
followed_is k at d q tables c r cursor shape entries is =
    subst (λ (es : List Entry). AreClear es d (sums_at d.units es) (places_after es d (sums_at d.units es) k at)) (sym entries) (record {
      recopy = clear_after stage.Recopy r.entries c d (sums_at c.units r.entries) (sums_at d.units r.entries) at k.recopy tables (λ x. refl) shape is cursor.recopy;
      fill = clear_after stage.Fill r.entries c d (sums_at c.units r.entries) (sums_at d.units r.entries) at k.fill tables (λ x. refl) shape is cursor.fill;
      shift = clear_after stage.Shift r.entries c d (sums_at c.units r.entries) (sums_at d.units r.entries) at k.shift tables (λ x. refl) shape is cursor.shift;
      lost = clear_after stage.Lost r.entries c d (sums_at c.units r.entries) (sums_at d.units r.entries) at k.lost tables (λ x. refl) shape is cursor.lost;
      no_space = clear_after stage.NoSpace r.entries c d (sums_at c.units r.entries) (sums_at d.units r.entries) at k.no_space tables (λ x. refl) shape is cursor.no_space;
      balance = clear_start stage.Balance r.entries d (sums_at d.units r.entries);
    })

-- ---- the chunk itself, as the first from it on

abbrev first_passes : (Chunked → Bool) → Chunk → List Chunked → Bool
first_passes due at [] = false
first_passes due at (x ∷ xs) = is_at (chunk_cmp at) x.0 && due x

first_is : (due : Chunked → Bool) (at : Chunk) (xs : List Chunked) → Ascend is_chunk_before xs → first_passes due at (chunks_from xs at) ≡ passes_at due xs at
first_is due at [] up = refl
first_is due at (x ∷ xs) up = by (chunk_cmp at x.0) refl (first_is due at xs (tail_up chunk_cmp chunk_total chunks_exact x xs up))
  where
    none : chunk_cmp at x.0 ≡ Less → (o : Option (List Homes)) → chunk_at xs at ≡ o → false ≡ passes_found due at o
    none less None is = refl
    none less (Some homes) is =
        let more : chunk_cmp x.0 at ≡ Less = below chunk_cmp chunk_total chunks_exact x xs (at, homes) up (found_is chunk_cmp chunk_total chunks_exact at xs homes is) in
        let back : chunk_cmp x.0 at ≡ Greater = chunk_total.antisymm x.0 at ∙ ap ordering_reverse less in
        let both : Less ≡ Greater = sym more ∙ back in
        absurd cc

    by : (o : Ordering) → chunk_cmp at x.0 ≡ o → first_passes due at (chunks_from xs at) ≡ passes_at due xs at → first_passes due at (chunks_from (x ∷ xs) at) ≡ passes_at due (x ∷ xs) at
    by Less e rest = rw (e, e) (none e (chunk_at xs at) refl)
    by Equal e rest = rw (e, e) (ap (λ (k : Chunk). due (k, x.1)) (sym (chunks_exact at x.0 e)))
    by Greater e rest = rw e rest

pub due_none : (due : Chunked → Bool) (at : Chunk) (xs left : List Chunked) → Ascend is_chunk_before xs → left ≡ chunks_from xs at → left ≡ [] → false ≡ passes_at due xs at
due_none due at xs left up is none = ap (first_passes due at) (sym none ∙ is) ∙ first_is due at xs up

pub due_some : (due : Chunked → Bool) (at : Chunk) (xs left : List Chunked) (x : Chunked) (more : List Chunked) → Ascend is_chunk_before xs → left ≡ chunks_from xs at → left ≡ x ∷ more → (is_at (chunk_cmp at) x.0 && due x) ≡ passes_at due xs at
due_some due at xs left x more up is some = ap (first_passes due at) (sym some ∙ is) ∙ first_is due at xs up

-- ---- the tables that plans lead to

chunk_stays : (t : List Chunked) (f i : ℕ) (hs : Homes) (p : Chunk) → is_at (chunk_cmp p) (f, i / 256) ≡ false → chunk_at (with_extent t f i hs) p ≡ chunk_at t p
chunk_stays t f i hs p miss =
    let k : Chunk = (f, i / 256) in
    let there = slice_set (unwrap_or (chunk_at t k) []) (i % 256) hs in
    let new = slice_set (replicate 256 absent_homes) (i % 256) hs in
    cond_both (is_some (chunk_at t k)) (with_homes t k (i % 256) hs) (with_chunk t k new) (λ (x : List Chunked). chunk_at x p ≡ chunk_at t p)
    (λ yes. set_other chunk_cmp same_chunk k there p miss t)
    (λ no. put_other chunk_cmp same_chunk k new p miss t)

marks_stay : (stale : List Marked) (f i marks : ℕ) (p : Chunk) → is_at (chunk_cmp p) (f, i / 256) ≡ false → marks_at (with_marks_at stale f i marks) p ≡ marks_at stale p
marks_stay stale f i marks p miss = put_other chunk_cmp same_chunk (f, i / 256) (slice_set (marks_or_none stale (f, i / 256)) (i % 256) marks) p miss stale

pub moves_change_one : MovesChangeOne
moves_change_one t f i copy h = record {
  chunks = λ p other. chunk_stays t.extents f i (homes_moved t f i copy h) p other;
  marks = λ p other. marks_stay t.stale f i (without_bit (marks_of t f i) copy) p other;
  copies = λ g. refl;
}

pub marks_change_one : MarksChangeOne
marks_change_one t f i set clear = record {
  chunks = λ p other. refl;
  marks = λ p other. marks_stay t.stale f i (marks_changed (marks_of t f i) set clear) p other;
  copies = λ g. refl;
}
