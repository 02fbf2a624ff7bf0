-- The extents that have a stale copy on a disk.
use Rattle.std.proofs.Common.{◌≡◌, ◌≤◌, ◌<◌, ◌+◌, ◌*◌, ◌/◌, ◌%◌, ◌^◌, ℕ, zero, suc, Bool, true, false, cond, ltb, get_or, List, [], ◌∷◌, length, Ordering, Option, Some, None, refl, sym, ap, subst, ◌∙◌, arith, inl, inr, ◌⊎◌}
use Rattle.std.specs.Prelude.{◌&&◌, ◌||◌, not, filter, find, IfNone, IfSome}
use Rattle.std.specs.List.{list_any, zip}
use Rattle.std.specs.Option.{option_map, unwrap_or}
use Rattle.std.specs.Ordering.{is_le, is_lt, ordering_reverse}
use Rattle.std.specs.declared.cmp.Ordering.TheVariants.{Less, Equal, Greater}
use Rattle.std.proofs.lemmas.Bool.{and_parts, cases_eq, cases_lt, lt-ltb, ltb-true, true≢false}
use Rattle.std.proofs.lemmas.List.{get_or_default}
use Rattle.std.proofs.lemmas.Option.{none-some}
use Rattle.asm_base.specs.declared.kinds.ExtentId.{ExtentId}
use Rattle.asm_formats.specs.Among.{IsAmong}
use Rattle.asm_formats.specs.Items.{Homes}
use Rattle.asm_formats.specs.Sets.{has_bit}
use Rattle.asm_base.specs.Records.{Ascend}
use Rattle.asm_base.proofs.Exact.{some_is}
use Rattle.plan_records.specs.extent_map.Extents.{chunk_at}
use Rattle.asm_base.specs.Chunks.{Chunk, chunk_cmp, is_chunk_before}
use Rattle.plan_records.proofs.extent_map.Ends.{Lower, lower}
use Rattle.plan_records.proofs.extent_map.Laws.{chunk_total, same_chunk}
use Rattle.plan_records.proofs.extent_map.Numbering.{less_is, size_of}
use Rattle.plan_records.specs.staleness_directory.Marks.{Marked, marks_at, marks_from}
use Rattle.plan_records.specs.catalog_tables.Rules.{homes_at}
use Rattle.plan_records.specs.catalog_tables.Faults.{IsCatalog}
use Rattle.plan_records.specs.catalog_tables.MarkedExtents.{HasNoMarkedHome, HasNoneIn, HasNoneMarked, IsFirstIn, IsFirstMarked, IsFirstPlace, IsFrom, any_stale_on, first_marked, has_marked, has_stale_on, is_marked_on}
use Rattle.plan_records.specs.catalog_tables.Tables.{AreTables, Catalogued, Tables}
use Rattle.plan_records.proofs.catalog_tables.EntryLaws.{both, either}
use Rattle.plan_records.proofs.catalog_tables.TableItems.{among_found, below, chunks_exact, found_is}

-- ---- one extent

no_bits : (d : ℕ) (homes : Homes) → has_stale_on d (0, homes) ≡ false
unfolding has_bit
no_bits d homes = refl

and_no : (b : Bool) → (b && false) ≡ false
and_no true = refl
and_no false = refl

no_homes : (d marks : ℕ) → has_stale_on d (marks, []) ≡ false
no_homes d marks = rw (and_no (has_bit marks 0), and_no (has_bit marks 1), and_no (has_bit marks 2)) refl

-- what is told of the extent at a place of a chunk
at_place : (t : Tables) (d : ℕ) (at : Chunk) (q : ℕ) → q < 256 → is_marked_on t d at.0 (at.1 * 256 + q) ≡ has_stale_on d (get_or (unwrap_or (marks_at t.stale at) []) q 0, get_or (unwrap_or (chunk_at t.extents at) []) q [])
at_place t d (f, c) q lt =
    let chunk : (c * 256 + q) / 256 ≡ c = omega (arith, lt) in
    let place : (c * 256 + q) % 256 ≡ q = omega (arith, lt) in
    ap (λ (n : ℕ). has_stale_on d (get_or (unwrap_or (marks_at t.stale (f, n)) []) ((c * 256 + q) % 256) 0, get_or (unwrap_or (chunk_at t.extents (f, n)) []) ((c * 256 + q) % 256) [])) chunk
    ∙ ap (λ (p : ℕ). has_stale_on d (get_or (unwrap_or (marks_at t.stale (f, c)) []) p 0, get_or (unwrap_or (chunk_at t.extents (f, c)) []) p [])) place

-- ---- a chunk

any_false : (d : ℕ) (m : List ℕ) (w : List Homes) (p : ℕ) → list_any (has_stale_on d) (zip m w) ≡ false → has_stale_on d (get_or m p 0, get_or w p []) ≡ false
any_false d [] w p e = no_bits d (get_or w p [])
any_false d (b ∷ m) [] p e = no_homes d (get_or (b ∷ m) p 0)
any_false d (b ∷ m) (h ∷ w) zero e = by (has_stale_on d (b, h)) e where
  by : (x : Bool) → (x || list_any (has_stale_on d) (zip m w)) ≡ false → x ≡ false
  by true f = absurd (true≢false f)
  by false f = refl
any_false d (b ∷ m) (h ∷ w) (suc p) e = any_false d m w p (by (has_stale_on d (b, h)) e) where
  by : (x : Bool) → (x || list_any (has_stale_on d) (zip m w)) ≡ false → list_any (has_stale_on d) (zip m w) ≡ false
  by true f = absurd (true≢false f)
  by false f = f

any_true : (d : ℕ) (m : List ℕ) (w : List Homes) → list_any (has_stale_on d) (zip m w) ≡ true → (p : ℕ) × (p < length w) × (has_stale_on d (get_or m p 0, get_or w p []) ≡ true)
any_true d [] w e = absurd (true≢false (sym e))
any_true d (b ∷ m) [] e = absurd (true≢false (sym e))
any_true d (b ∷ m) (h ∷ w) e = by (has_stale_on d (b, h)) refl e (any_true d m w) where
  by : (x : Bool) → has_stale_on d (b, h) ≡ x → (x || list_any (has_stale_on d) (zip m w)) ≡ true
      → (list_any (has_stale_on d) (zip m w) ≡ true → (p : ℕ) × (p < length w) × (has_stale_on d (get_or m p 0, get_or w p []) ≡ true))
      → (p : ℕ) × (p < length (h ∷ w)) × (has_stale_on d (get_or (b ∷ m) p 0, get_or (h ∷ w) p []) ≡ true)
  by true is f more = (0, omega arith, is)
  by false is f more = let r = more f in (suc r.0, omega (arith, r.1), r.2)

none_there : (d : ℕ) (m : List ℕ) (o : Option (List Homes)) (p : ℕ) → any_stale_on d m o ≡ false → has_stale_on d (get_or m p 0, get_or (unwrap_or o []) p []) ≡ false
none_there d m None p e = no_homes d (get_or m p 0)
none_there d m (Some w) p e = any_false d m w p e

-- ---- what is found in a chunk

pub chunk_long : (c : Catalogued) (at : Chunk) (w : List Homes) → IsCatalog c → chunk_at c.tables.extents at ≡ Some w → length w ≡ 256
chunk_long c at w is there = size_of c.tables.extents at w is.rules.tables.extents.0.1 there

pub no_marks : (t : Tables) (d : ℕ) (at : Chunk) (from : ℕ) → marks_at t.stale at ≡ None → HasNoneIn t d at from
no_marks t d at from none q le lt = at_place t d at q lt ∙ ap (λ (o : Option (List ℕ)). has_stale_on d (get_or (unwrap_or o []) q 0, get_or (unwrap_or (chunk_at t.extents at) []) q [])) none ∙ no_bits d (get_or (unwrap_or (chunk_at t.extents at) []) q [])

pub no_chunk : (t : Tables) (d : ℕ) (at : Chunk) (from : ℕ) → chunk_at t.extents at ≡ None → HasNoneIn t d at from
no_chunk t d at from none q le lt = at_place t d at q lt ∙ ap (λ (o : Option (List Homes)). has_stale_on d (get_or (unwrap_or (marks_at t.stale at) []) q 0, get_or (unwrap_or o []) q [])) none ∙ no_homes d (get_or (unwrap_or (marks_at t.stale at) []) q 0)

module _ (t : Tables) (d : ℕ) (at : Chunk) (from : ℕ) (m : List ℕ) (w : List Homes) (marks : marks_at t.stale at ≡ Some m) (there : chunk_at t.extents at ≡ Some w) where
  is_there : (q : ℕ) → q < 256 → is_marked_on t d at.0 (at.1 * 256 + q) ≡ has_stale_on d (get_or m q 0, get_or w q [])
  is_there q lt =
      at_place t d at q lt ∙ ap (λ (o : Option (List ℕ)). has_stale_on d (get_or (unwrap_or o []) q 0, get_or (unwrap_or (chunk_at t.extents at) []) q [])) marks
      ∙ ap (λ (o : Option (List Homes)). has_stale_on d (get_or m q 0, get_or (unwrap_or o []) q [])) there

  pub no_place : HasNoMarkedHome d m w from → HasNoneIn t d at from
  no_place none q le lt = is_there q lt ∙ none q le lt

  pub place_found : (place : ℕ) → IsFirstPlace d m w from place → IsFirstIn t d at from (at.0, at.1 * 256 + place)
  place_found place is = record {
    place = place;
    at_least = is.at_least;
    few = is.few;
    file = refl;
    index = refl;
    marked = is_there place is.few ∙ is.marked;
    before = λ q le lt. is_there q (omega (arith, lt, is.few)) ∙ is.before q le lt;
  }

-- one place more is passed
pub place_passed : (d from place : ℕ) (m : List ℕ) (w : List Homes) (homes : Homes) (r : Bool) → length w ≡ 256 → place < 256
    → ((q : ℕ) → from ≤ q → q < place → has_stale_on d (get_or m q 0, get_or w q []) ≡ false) → homes ≡ get_or w place homes → r ≡ has_stale_on d (get_or m place 0, homes) → r ≡ false
    → (q : ℕ) → from ≤ q → q < place + 1 → has_stale_on d (get_or m q 0, get_or w q []) ≡ false
place_passed d from place m w homes r long lt before is ran not_so q le less = elim (cases_lt q place) [
  | inl earlier ↦ before q le earlier
  | inr late ↦
      let same : q ≡ place = omega (arith, less, late) in
      let there : homes ≡ get_or w place [] = is ∙ get_or_default w place homes [] (omega (arith, long, lt)) in
      let here : has_stale_on d (get_or m place 0, get_or w place []) ≡ false = ap (λ (h : Homes). has_stale_on d (get_or m place 0, h)) (sym there) ∙ (sym ran ∙ not_so) in
      ap (λ (p : ℕ). has_stale_on d (get_or m p 0, get_or w p [])) same ∙ here
]

-- ---- the first that passes a test

keeps_test : {A : Type 0} (keep test : A → Bool) (xs : List A) → find test (filter keep xs) ≡ find (λ x. keep x && test x) xs
keeps_test keep test [] = refl
keeps_test {A} keep test (x ∷ xs) = by (keep x) refl (keeps_test keep test xs) where
  by : (b : Bool) → keep x ≡ b → find test (filter keep xs) ≡ find (λ y. keep y && test y) xs → find test (filter keep (x ∷ xs)) ≡ find (λ y. keep y && test y) (x ∷ xs)
  by true e more = rw e (ap (λ (o : Option A). cond (test x) (Some x) o) more)
  by false e more = rw e more

none_passes : {A : Type 0} (test : A → Bool) (xs : List A) → find test xs ≡ None → (x : A) → IsAmong xs x → test x ≡ false
none_passes test [] e x m = absurd m
none_passes {A} test (y ∷ xs) e x m = by (test y) refl e (none_passes test xs) m where
  by : (b : Bool) → test y ≡ b → cond b (Some y) (find test xs) ≡ None → (find test xs ≡ None → (z : A) → IsAmong xs z → test z ≡ false) → (x ≡ y) ⊎ IsAmong xs x → test x ≡ false
  by true is f more h = absurd (none-some y (sym f))
  by false is f more (inl same) = ap test same ∙ is
  by false is f more (inr later) = more f x later

-- it is there, passes, and none before it does
record IsFound (test : Marked → Bool) (xs : List Marked) (x : Marked) : Type 0 where
  among : IsAmong xs x
  passes : test x ≡ true
  before : (y : Marked) → IsAmong xs y → is_chunk_before y.0 x.0 ≡ true → test y ≡ false

not_both : (p q : Chunk) → chunk_cmp p q ≡ Less → is_chunk_before q p ≡ true → ⊥
not_both p q less more = true≢false (sym more ∙ ap is_lt (chunk_total.antisymm q p ∙ ap ordering_reverse less))

not_itself : (p : Chunk) → is_chunk_before p p ≡ true → ⊥
not_itself p lt = not_both p p (less_is (chunk_cmp p p) lt) lt

tail_of : (y : Marked) (xs : List Marked) → Ascend is_chunk_before (y ∷ xs) → Ascend is_chunk_before xs
tail_of y [] up = tt
tail_of y (z ∷ xs) up = up.1

found_first : (test : Marked → Bool) (xs : List Marked) (x : Marked) → Ascend is_chunk_before xs → find test xs ≡ Some x → IsFound test xs x
found_first test [] x up e = absurd (none-some x e)
found_first test (y ∷ xs) x up e = by (test y) refl e (found_first test xs x (tail_of y xs up)) where
  by : (b : Bool) → test y ≡ b → cond b (Some y) (find test xs) ≡ Some x → (find test xs ≡ Some x → IsFound test xs x) → IsFound test (y ∷ xs) x
  by true is f more =
      let same : y ≡ x = some_is y x f in
      subst (λ (z : Marked). IsFound test (y ∷ xs) z) same (record {
        among = inl refl;
        passes = is;
        before = λ z h less. elim h [ inl its ↦ absurd (not_itself y.0 (subst (λ (v : Marked). is_chunk_before v.0 y.0 ≡ true) its less)) | inr later ↦ absurd (not_both y.0 z.0 (below chunk_cmp chunk_total chunks_exact y xs z up later) less) ];
      })
  by false is f more =
      let r = more f in
      record { among = inr r.among; passes = r.passes; before = λ z h less. elim h [ inl its ↦ ap test its ∙ is | inr later ↦ r.before z later less ] }

-- ---- the order of chunks

abbrev is_kept : Chunk → Chunk → Bool
is_kept from q = is_le (chunk_cmp from q) && true

kept_from : (from q : Chunk) → is_kept from q ≡ true → IsFrom from q
kept_from from q e = by (chunk_cmp from q) refl e where
  of_lower : Lower from q → IsFrom from q
  of_lower (inl file) = inl file
  of_lower (inr p) = inr (p.0, omega (arith, p.1))

  by : (o : Ordering) → chunk_cmp from q ≡ o → (is_le o && true) ≡ true → IsFrom from q
  by Less is f = of_lower (lower from q is)
  by Equal is f = let same = same_chunk from q is in inr (ap (λ (p : Chunk). p.0) same, omega (arith, ap (λ (p : Chunk). p.1) same))
  by Greater is f = absurd (true≢false (sym f))

-- one chunk isn't both behind another and before it
apart : (p q : Chunk) → IsFrom p q → Lower q p → ⊥
apart p q (inl a) (inl b) = omega (arith, a, b)
apart p q (inl a) (inr b) = omega (arith, a, b.0)
apart p q (inr a) (inl b) = omega (arith, a.0, b)
apart p q (inr a) (inr b) = omega (arith, a.1, b.1)

from_kept : (from q : Chunk) → IsFrom from q → is_kept from q ≡ true
from_kept from q late = by (chunk_cmp from q) refl where
  by : (o : Ordering) → chunk_cmp from q ≡ o → (is_le o && true) ≡ true
  by Less is = refl
  by Equal is = refl
  by Greater is = absurd (apart from q late (lower q from (chunk_total.antisymm q from ∙ ap ordering_reverse is)))

not_before : (p q : Chunk) → is_chunk_before q p ≡ false → IsFrom p q
not_before p q e = by (chunk_cmp q p) refl e where
  of_lower : Lower p q → IsFrom p q
  of_lower (inl file) = inl file
  of_lower (inr r) = inr (r.0, omega (arith, r.1))

  by : (o : Ordering) → chunk_cmp q p ≡ o → is_lt o ≡ false → IsFrom p q
  by Less is f = absurd (true≢false f)
  by Equal is f = let same = same_chunk q p is in inr (sym (ap (λ (r : Chunk). r.0) same), omega (arith, ap (λ (r : Chunk). r.1) same))
  by Greater is f = of_lower (lower p q (chunk_total.antisymm p q ∙ ap ordering_reverse is))

-- ---- the first chunk

map_none : {A B : Type 0} (f : A → B) (o : Option A) → option_map f o ≡ None → o ≡ None
map_none f None e = refl
map_none f (Some x) e = absurd (none-some (f x) (sym e))

map_some : {A B : Type 0} (f : A → B) (o : Option A) (y : B) → option_map f o ≡ Some y → (x : A) × (o ≡ Some x) × (f x ≡ y)
map_some f None y e = absurd (none-some y e)
map_some f (Some x) y e = (x, refl, some_is (f x) y e)

record IsLater (t : Tables) (d : ℕ) (next later : Chunk) : Type 0 where
  marks : List ℕ
  marked : has_marked t d (later, marks) ≡ true
  at : IsAmong t.stale (later, marks)
  from : IsFrom next later
  before : (y : Marked) → IsAmong t.stale y → IsFrom next y.0 → is_chunk_before y.0 later ≡ true → has_marked t d y ≡ false

module _ (t : Tables) (d : ℕ) (next : Chunk) where
  abbrev both_tests : Marked → Bool
  both_tests x = is_kept next x.0 && has_marked t d x

  second_false : (a b : Bool) → (a && b) ≡ false → a ≡ true → b ≡ false
  second_false true b e is = e
  second_false false b e is = absurd (true≢false (sym is))

  none_later : first_marked t d (marks_from t.stale next) ≡ None → (y : Marked) → IsAmong t.stale y → IsFrom next y.0 → has_marked t d y ≡ false
  none_later e y h late =
      second_false (is_kept next y.0) (has_marked t d y)
      (none_passes both_tests t.stale (sym (keeps_test (λ (x : Marked). is_kept next x.0) (has_marked t d) t.stale) ∙ map_none (λ (x : Marked). x.0) (find (has_marked t d) (marks_from t.stale next)) e) y h) (from_kept next y.0 late)

  later_is : AreTables t → (later : Chunk) → first_marked t d (marks_from t.stale next) ≡ Some later → IsLater t d next later
  later_is are later e =
      let x = map_some (λ (x : Marked). x.0) (find (has_marked t d) (marks_from t.stale next)) later e in
      let found = found_first both_tests t.stale x.0 are.stale.0 (sym (keeps_test (λ (y : Marked). is_kept next y.0) (has_marked t d) t.stale) ∙ x.1) in
      let p = and_parts (is_kept next x.0.0) (has_marked t d x.0) found.passes in
      subst (λ (k : Chunk). IsLater t d next k) x.2 (record {
        marks = x.0.1;
        marked = p.1;
        at = found.among;
        from = kept_from next x.0.0 p.0;
        before = λ y h late less. second_false (is_kept next y.0) (has_marked t d y) (found.before y h less) (from_kept next y.0 late);
      })

-- ---- the extents behind one

-- the chunk of an extent that has a stale copy is one that has such an extent
marked_entry : (t : Tables) (d f i : ℕ) → i < 2 ^ 32 → is_marked_on t d f i ≡ true → (m : List ℕ) × IsAmong t.stale ((f, i / 256), m) × (has_marked t d ((f, i / 256), m) ≡ true)
marked_entry t d f i small e = by (marks_at t.stale (f, i / 256)) refl where
  by : (o : Option (List ℕ)) → marks_at t.stale (f, i / 256) ≡ o → (m : List ℕ) × IsAmong t.stale ((f, i / 256), m) × (has_marked t d ((f, i / 256), m) ≡ true)
  by None g = absurd (true≢false (sym e ∙ (ap (λ (o : Option (List ℕ)). has_stale_on d (get_or (unwrap_or o []) (i % 256) 0, homes_at t f i)) g ∙ no_bits d (homes_at t f i))))
  by (Some m) g = (
    m,
    found_is chunk_cmp chunk_total chunks_exact (f, i / 256) t.stale m g,
    elim (either (any_stale_on d m (chunk_at t.extents (f, i / 256)))) [
      | inl is_so ↦ both (ltb (i / 256) (2 ^ 24)) (any_stale_on d m (chunk_at t.extents (f, i / 256))) (lt-ltb (i / 256) (2 ^ 24) (omega (arith, small))) is_so
      | inr not_so ↦ absurd (true≢false (sym e ∙ (ap (λ (o : Option (List ℕ)). has_stale_on d (get_or (unwrap_or o []) (i % 256) 0, homes_at t f i)) g ∙ none_there d m (chunk_at t.extents (f, i / 256)) (i % 256) not_so)))
    ],
  )

-- an extent behind one is behind it in its chunk, or in a later chunk
in_chunk : (f i : ℕ) (y : ℕ × ℕ) → IsFrom (f, i) y → ((f ≡ y.0) × (i / 256 ≡ y.1 / 256) × (i % 256 ≤ y.1 % 256)) ⊎ IsFrom (f, i / 256 + 1) (y.0, y.1 / 256)
in_chunk f i y (inl file) = inr (inl file)
in_chunk f i y (inr p) = elim (cases_eq (i / 256) (y.1 / 256)) [
  | inl same ↦ inl (p.0, same, omega (arith, p.1, same))
  | inr other ↦ inr (inr (p.0, omega (arith, p.1, other)))
]

at_index : (t : Tables) (d f c j : ℕ) → c ≡ j / 256 → is_marked_on t d f (c * 256 + j % 256) ≡ is_marked_on t d f j
at_index t d f c j e = let same : c * 256 + j % 256 ≡ j = omega (arith, e) in ap (is_marked_on t d f) same

-- none of the extents of the first chunk is marked
none_first : (t : Tables) (d f i : ℕ) (y : ℕ × ℕ) → HasNoneIn t d (f, i / 256) (i % 256) → f ≡ y.0 → i / 256 ≡ y.1 / 256 → i % 256 ≤ y.1 % 256 → is_marked_on t d y.0 y.1 ≡ false
none_first t d f i y none file chunk le =
    ap (λ (g : ℕ). is_marked_on t d g y.1) (sym file) ∙ sym (at_index t d f (i / 256) y.1 chunk) ∙ none (y.1 % 256) le (omega arith)

pub in_first : (t : Tables) (d f i : ℕ) (x : ℕ × ℕ) → IsFirstIn t d (f, i / 256) (i % 256) x → IsFirstMarked t d (f, i) x
in_first t d f i x is = record {
  from = inr (sym is.file, omega (arith, is.index, is.at_least));
  marked = ap (λ (g : ℕ). is_marked_on t d g x.1) is.file ∙ ap (is_marked_on t d f) is.index ∙ is.marked;
  first = first;
} where
  later : (y : ℕ × ℕ) → f ≡ y.0 → i / 256 ≡ y.1 / 256 → i % 256 ≤ y.1 % 256 → is_marked_on t d y.0 y.1 ≡ true → IsFrom x y
  later y file chunk le marked = elim (cases_lt (y.1 % 256) is.place) [
    | inl less ↦ absurd (true≢false (sym marked ∙ (ap (λ (g : ℕ). is_marked_on t d g y.1) (sym file) ∙ sym (at_index t d f (i / 256) y.1 chunk) ∙ is.before (y.1 % 256) le less)))
    | inr more ↦ inr (is.file ∙ file, omega (arith, is.index, chunk, more))
  ]

  behind : (y : ℕ × ℕ) → IsFrom (f, i / 256 + 1) (y.0, y.1 / 256) → IsFrom x y
  behind y (inl file) = inl (omega (arith, file, is.file))
  behind y (inr p) = inr (is.file ∙ p.0, omega (arith, p.1, is.index, is.few))

  first : (y : ℕ × ℕ) → IsFrom (f, i) y → y.1 < 2 ^ 32 → is_marked_on t d y.0 y.1 ≡ true → IsFrom x y
  first y late small marked = elim (in_chunk f i y late) [
    | inl p ↦ later y p.0 p.1 p.2 marked
    | inr b ↦ behind y b
  ]

pub in_none : (t : Tables) (d f i : ℕ) → HasNoneIn t d (f, i / 256) (i % 256) → first_marked t d (marks_from t.stale (f, i / 256 + 1)) ≡ None → HasNoneMarked t d (f, i)
in_none t d f i none e y late small = elim (either (is_marked_on t d y.0 y.1)) [
  | inr not_so ↦ not_so
  | inl is_so ↦ elim (in_chunk f i y late) [
    | inl p ↦ none_first t d f i y none p.0 p.1 p.2
    | inr b ↦
        let m = marked_entry t d y.0 y.1 small is_so in
        absurd (true≢false (sym m.2 ∙ none_later t d (f, i / 256 + 1) e ((y.0, y.1 / 256), m.0) m.1 b))
  ]
]

pub later_small : (c : Catalogued) (d : ℕ) (next later : Chunk) → IsCatalog c → first_marked c.tables d (marks_from c.tables.stale next) ≡ Some later → later.1 < 2 ^ 24
later_small c d next later is e =
    let found = later_is c.tables d next is.rules.tables later e in
    ltb-true later.1 (2 ^ 24) (and_parts (ltb later.1 (2 ^ 24)) (any_stale_on d found.marks (chunk_at c.tables.extents later)) found.marked).0

module _ (c : Catalogued) (d f i : ℕ) (later : Chunk) (is : IsCatalog c) (none : HasNoneIn c.tables d (f, i / 256) (i % 256)) (e : first_marked c.tables d (marks_from c.tables.stale (f, i / 256 + 1)) ≡ Some later) where
  abbrev t : Tables
  t = c.tables

  are : AreTables c.tables
  are = is.rules.tables

  is_later : IsLater t d (f, i / 256 + 1) later
  is_later = later_is t d (f, i / 256 + 1) are later e

  pub in_later : (x : ℕ × ℕ) → IsFirstIn c.tables d later 0 x → IsFirstMarked c.tables d (f, i) x
  in_later x one = record {
    from = behind is_later.from;
    marked = ap (λ (g : ℕ). is_marked_on t d g x.1) one.file ∙ ap (is_marked_on t d later.0) one.index ∙ one.marked;
    first = first;
  } where
    behind : IsFrom (f, i / 256 + 1) later → IsFrom (f, i) x
    behind (inl file) = inl (omega (arith, file, one.file))
    behind (inr p) = inr (p.0 ∙ sym one.file, omega (arith, p.1, one.index))

    in_same : (y : ℕ × ℕ) → later.0 ≡ y.0 → later.1 ≡ y.1 / 256 → is_marked_on t d y.0 y.1 ≡ true → IsFrom x y
    in_same y file chunk marked = elim (cases_lt (y.1 % 256) one.place) [
      | inl less ↦ absurd (true≢false (sym marked ∙ (ap (λ (g : ℕ). is_marked_on t d g y.1) (sym file) ∙ sym (at_index t d later.0 later.1 y.1 chunk) ∙ one.before (y.1 % 256) (omega arith) less)))
      | inr more ↦ inr (one.file ∙ file, omega (arith, one.index, chunk, more))
    ]

    past : (y : ℕ × ℕ) → IsFrom later (y.0, y.1 / 256) → is_marked_on t d y.0 y.1 ≡ true → IsFrom x y
    past y (inl file) marked = inl (omega (arith, file, one.file))
    past y (inr p) marked = elim (cases_eq later.1 (y.1 / 256)) [
      | inl same ↦ in_same y p.0 same marked
      | inr other ↦ inr (one.file ∙ p.0, omega (arith, p.1, other, one.index, one.few))
    ]

    first : (y : ℕ × ℕ) → IsFrom (f, i) y → y.1 < 2 ^ 32 → is_marked_on t d y.0 y.1 ≡ true → IsFrom x y
    first y late small marked = elim (in_chunk f i y late) [
      | inl p ↦ absurd (true≢false (sym marked ∙ none_first t d f i y none p.0 p.1 p.2))
      | inr b ↦
          let m = marked_entry t d y.0 y.1 small marked in
          elim (either (is_chunk_before (y.0, y.1 / 256) later)) [
            | inl before ↦ absurd (true≢false (sym m.2 ∙ is_later.before ((y.0, y.1 / 256), m.0) m.1 b before))
            | inr other ↦ past y (not_before later (y.0, y.1 / 256) other) marked
          ]
    ]

  -- the chunk that is found has such an extent
  pub has_one : HasNoneIn t d later 0 → ⊥
  has_one not_so = by (chunk_at t.extents later) refl (and_parts (ltb later.1 (2 ^ 24)) (any_stale_on d is_later.marks (chunk_at t.extents later)) is_later.marked).1 where
    marks_there : marks_at t.stale later ≡ Some is_later.marks
    marks_there = among_found chunk_cmp chunk_total chunks_exact t.stale (later, is_later.marks) are.stale.0 is_later.at

    by : (o : Option (List Homes)) → chunk_at t.extents later ≡ o → any_stale_on d is_later.marks o ≡ true → ⊥
    by None there some = true≢false (sym some)
    by (Some w) there some =
        let p = any_true d is_later.marks w some in
        let inside : p.0 < 256 = omega (arith, p.1, chunk_long c later w is there) in
        true≢false (sym p.2 ∙ (sym (is_there t d later 0 is_later.marks w marks_there there p.0 inside) ∙ not_so p.0 (omega arith) inside))

  pub in_later_none : HasNoneIn c.tables d later 0 → HasNoneMarked c.tables d (f, i)
  in_later_none not_so = absurd (has_one not_so)

  pub later_found : (o : Option ExtentId) → IfSome o (λ x. IsFirstIn c.tables d later 0 (x.file, x.index)) → IfSome o (λ x. IsFirstMarked c.tables d (f, i) (x.file, x.index))
  later_found None found = tt
  later_found (Some x) found = in_later (x.file, x.index) found

  pub later_none : (o : Option ExtentId) → IfNone o (HasNoneIn c.tables d later 0) → IfNone o (HasNoneMarked c.tables d (f, i))
  later_none None none_in = in_later_none none_in
  later_none (Some x) none_in = tt
