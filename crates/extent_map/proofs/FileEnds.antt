-- The count of a file's extents, and a table with an extent more or less at a file's end.
use Rattle.std.proofs.Common.{◌≡◌, ℕ, zero, suc, ◌+◌, ◌-◌, ◌*◌, ◌/◌, ◌%◌, ◌<◌, ◌≤◌, ◌^◌, Bool, true, false, ltb, List, [], ◌∷◌, length, get_or, replicate, Option, Some, None, refl, sym, ap, subst, ◌∙◌, arith, inl, inr, ◌⊎◌}
use Rattle.std.specs.Prelude.{◌&&◌, slice_set, IsTrue}
use Rattle.std.specs.List.{AllByRecursion}
use Rattle.std.specs.Option.{is_some, unwrap_or}
use Rattle.std.specs.BTreeMap.{is_at}
use Rattle.std.specs.Map.{set_value}
use Rattle.std.proofs.lemmas.Bool.{and_parts, cases_eq, cases_lt, ltb-true}
use Rattle.std.proofs.lemmas.List.{get_or-set_same, get_or-set_other, get_or-replicate, length-replicate, length-set}
use Rattle.asm_formats.specs.Items.{Homes, is_homes, is_item}
use Rattle.asm_base.proofs.ItemTables.{put_keeps}
use Rattle.extent_map.specs.Extents.{Chunked, HasCount, HasExtent, IsExtentTable, absent_homes, chunk_at, has_extent, has_home, is_blank, is_full, item_of_chunk, may_stand, stand_first, with_chunk, with_extent, without_extent}
use Rattle.asm_base.specs.Chunks.{Chunk, chunk_cmp}
use Rattle.extent_map.specs.Laws.{AppendsExtents, TakesLast}
use Rattle.extent_map.proofs.Laws.{chunk_total, same_chunk}
use Rattle.extent_map.proofs.Values.{chunk_numbered, new_allowed, set_allowed}
use Rattle.extent_map.proofs.Numbering.{Full, Stands, at_place, clash, found_or, found_self, is_same, numbers_extents, size_of, the_chunk}
use Rattle.extent_map.proofs.Lookups.{put_here, put_other, set_all, set_ascends, set_here, set_other}
use Rattle.extent_map.proofs.Ends.{BlankAbove, FullBelow, IsChange, changed_table}

-- ---- the count

-- a file that has an extent has those before it
pub has_below : (t : List Chunked) (f : ℕ) → IsExtentTable t → (k i : ℕ) → has_extent t f (i + k) ≡ true → has_extent t f i ≡ true
has_below t f fits zero i e = ap (has_extent t f) (omega arith) ∙ e
has_below t f fits (suc k) i e = has_below t f fits k i (numbers_extents t f (i + k) fits (ap (has_extent t f) (omega arith) ∙ e))

pub has_to : (t : List Chunked) (f i j : ℕ) → IsExtentTable t → i ≤ j → has_extent t f j ≡ true → has_extent t f i ≡ true
has_to t f i j fits le e = has_below t f fits (j - i) i (ap (has_extent t f) (omega (arith, le)) ∙ e)

either : (b : Bool) → (b ≡ true) ⊎ (b ≡ false)
either true = inl refl
either false = inr refl

pub count_is : (t : List Chunked) (f n : ℕ) → ((i : ℕ) → i < n → has_extent t f i ≡ true) → ((i : ℕ) → n ≤ i → has_extent t f i ≡ false) → HasCount t f n
count_is t f n below above i = (there, below i) where
  there : HasExtent t f i → i < n
  there e = elim (cases_lt i n) [
    | inl lt ↦ lt
    | inr ge ↦ absurd (clash (has_extent t f i) e (above i ge))
  ]

-- ---- the extents of a chunk

past_end : {A : Type 0} (xs : List A) (i : ℕ) (d : A) → length xs ≤ i → get_or xs i d ≡ d
past_end [] i d le = refl
past_end (x ∷ xs) zero d le = absurd (omega (arith, le))
past_end (x ∷ xs) (suc i) d le = past_end xs i d (omega (arith, le))

abbrev pub has_at : List Homes → ℕ → Bool
has_at homes p = has_home (get_or homes p [])

-- those below a number are there, and the others not
abbrev pub Reaches : List Homes → ℕ → Type 0
Reaches homes r = ((p : ℕ) → p < length homes → p < r → has_at homes p ≡ true) × ((p : ℕ) → p < length homes → r ≤ p → has_at homes p ≡ false)

pub none_stand : (homes : List Homes) (ended : Bool) → ((p : ℕ) → p < length homes → has_at homes p ≡ false) → stand_first ended homes ≡ true
none_stand [] ended none = refl
none_stand (h ∷ homes) true none = rw (none 0 (omega arith)) (none_stand homes true (λ p lt. none (suc p) (omega (arith, lt))))
none_stand (h ∷ homes) false none = rw (none 0 (omega arith)) (none_stand homes true (λ p lt. none (suc p) (omega (arith, lt))))

stand_by : (homes : List Homes) (r : ℕ) → Reaches homes r → Stands homes
stand_by homes zero reach = none_stand homes false (λ p lt. reach.1 p lt (omega arith))
stand_by [] (suc r) reach = refl
stand_by (h ∷ homes) (suc r) reach =
    rw (reach.0 0 (omega arith) (omega arith)) (stand_by homes r ((λ p lt below. reach.0 (suc p) (omega (arith, lt)) (omega (arith, below))), (λ p lt above. reach.1 (suc p) (omega (arith, lt)) (omega (arith, above)))))

full_by : (homes : List Homes) → ((p : ℕ) → p < length homes → has_at homes p ≡ true) → is_full homes ≡ true
full_by [] all = refl
full_by (h ∷ homes) all = rw (all 0 (omega arith)) (full_by homes (λ p lt. all (suc p) (omega (arith, lt))))

pub blank_by : (homes : List Homes) → ((p : ℕ) → p < length homes → has_at homes p ≡ false) → is_blank homes ≡ true
blank_by [] none = refl
blank_by (h ∷ homes) none = rw (none 0 (omega arith)) (blank_by homes (λ p lt. none (suc p) (omega (arith, lt))))

one_more : (base : List Homes) (p : ℕ) (h : Homes) → p < length base → has_home h ≡ true → Reaches base p → Reaches (slice_set base p h) (suc p)
one_more base p h inside home reach = (below, above) where
  size : length (slice_set base p h) ≡ length base
  size = length-set base p h

  below : (q : ℕ) → q < length (slice_set base p h) → q < suc p → has_at (slice_set base p h) q ≡ true
  below q lt le = elim (cases_eq q p) [
    | inl same ↦ ap (has_at (slice_set base p h)) same ∙ ap has_home (get_or-set_same base p h [] inside) ∙ home
    | inr other ↦ ap has_home (get_or-set_other base p q h [] other) ∙ reach.0 q (omega (arith, lt, size)) (omega (arith, le, other))
  ]

  above : (q : ℕ) → q < length (slice_set base p h) → suc p ≤ q → has_at (slice_set base p h) q ≡ false
  above q lt ge = ap has_home (get_or-set_other base p q h [] (λ same. omega (arith, ge, same))) ∙ reach.1 q (omega (arith, lt, size)) (omega (arith, ge))

one_less : (base : List Homes) (p : ℕ) → p < length base → Reaches base (suc p) → Reaches (slice_set base p absent_homes) p
one_less base p inside reach = (below, above) where
  size : length (slice_set base p absent_homes) ≡ length base
  size = length-set base p absent_homes

  below : (q : ℕ) → q < length (slice_set base p absent_homes) → q < p → has_at (slice_set base p absent_homes) q ≡ true
  below q lt le = ap has_home (get_or-set_other base p q absent_homes [] (λ same. omega (arith, le, same))) ∙ reach.0 q (omega (arith, lt, size)) (omega (arith, le))

  above : (q : ℕ) → q < length (slice_set base p absent_homes) → p ≤ q → has_at (slice_set base p absent_homes) q ≡ false
  above q lt ge = elim (cases_eq q p) [
    | inl same ↦ ap (has_at (slice_set base p absent_homes)) same ∙ ap has_home (get_or-set_same base p absent_homes [] inside)
    | inr other ↦ ap has_home (get_or-set_other base p q absent_homes [] other) ∙ reach.1 q (omega (arith, lt, size)) (omega (arith, ge, other))
  ]

-- ---- the chunks of a file with a count

quotient : (c p : ℕ) → p < 256 → (c * 256 + p) / 256 ≡ c
quotient c p lt = omega (arith, lt)

remainder : (c p : ℕ) → p < 256 → (c * 256 + p) % 256 ≡ p
remainder c p lt = omega (arith, lt)

pub same_place : (t : List Chunked) (f c p : ℕ) → p < 256 → has_extent t f (c * 256 + p) ≡ at_place (chunk_at t (f, c)) p
same_place t f c p lt = ap (λ (m : ℕ). at_place (chunk_at t (f, m)) ((c * 256 + p) % 256)) (quotient c p lt) ∙ ap (at_place (chunk_at t (f, c))) (remainder c p lt)

module _ (t : List Chunked) (f n : ℕ) (count : HasCount t f n) where
  there : (c p : ℕ) → p < 256 → c * 256 + p < n → at_place (chunk_at t (f, c)) p ≡ true
  there c p lt below = sym (same_place t f c p lt) ∙ (count (c * 256 + p)).1 below

  not_there : (c p : ℕ) → p < 256 → n ≤ c * 256 + p → at_place (chunk_at t (f, c)) p ≡ false
  not_there c p lt above = elim (either (at_place (chunk_at t (f, c)) p)) [
    | inl e ↦ let below : c * 256 + p < n = (count (c * 256 + p)).0 (same_place t f c p lt ∙ e) in absurd (omega (arith, above, below))
    | inr e ↦ e
  ]

  full_of : IsExtentTable t → (c : ℕ) → c * 256 + 256 ≤ n → Full t (f, c)
  full_of fits c le =
      let h = the_chunk (chunk_at t (f, c)) 0 (there c 0 (omega arith) (omega (arith, le))) in
      let size = size_of t (f, c) h.0 fits.0.1 h.1 in
      (h.0, h.1, full_by h.0 (λ p lt. rw h.1 at (there c p (omega (arith, lt, size)) (omega (arith, le, lt, size)))))

  blank_of : IsExtentTable t → (c : ℕ) (homes : List Homes) → chunk_at t (f, c) ≡ Some homes → n ≤ c * 256 → is_blank homes ≡ true
  blank_of fits c homes e le =
      let size = size_of t (f, c) homes fits.0.1 e in
      blank_by homes (λ p lt. rw e at (not_there c p (omega (arith, lt, size)) (omega (arith, le))))

  reaches : IsExtentTable t → (c r : ℕ) (homes : List Homes) → chunk_at t (f, c) ≡ Some homes → n ≡ c * 256 + r → Reaches homes r
  reaches fits c r homes e at =
      let size = size_of t (f, c) homes fits.0.1 e in
      ((λ p lt below. rw e at (there c p (omega (arith, lt, size)) (omega (arith, at, below)))), (λ p lt above. rw e at (not_there c p (omega (arith, lt, size)) (omega (arith, at, above)))))

other_chunk : (f d c : ℕ) → (d ≡ c → ⊥) → is_at (chunk_cmp (f, d)) (f, c) ≡ false
other_chunk f d c other = by (is_at (chunk_cmp (f, d)) (f, c)) refl where
  by : (b : Bool) → is_at (chunk_cmp (f, d)) (f, c) ≡ b → is_at (chunk_cmp (f, d)) (f, c) ≡ false
  by true q = absurd (other (ap (λ (j : Chunk). j.1) (same_chunk (f, d) (f, c) (is_same (chunk_cmp (f, d) (f, c)) q))))
  by false q = q

-- a table in which the last chunk of a file has other extents, which stand first
pub after : (t u : List Chunked) (f n c r : ℕ) (w : List Homes) → IsExtentTable t → HasCount t f n → IsChange t u (f, c) w → length w ≡ 256 → Reaches w r → r ≤ 256 → c * 256 ≤ n → n ≤ c * 256 + 256
    → IsExtentTable u × HasCount u f (c * 256 + r)
after t u f n c r w fits count change size reach few low high = (changed_table t u (f, c) w fits change (stand_by w r reach) below above, counted) where
  below : FullBelow t (f, c)
  below d next = full_of t f n count fits d (omega (arith, next, low))

  above : BlankAbove t (f, c)
  above homes e = blank_of t f n count fits (c + 1) homes e (omega (arith, high))

  inside : (i : ℕ) → i / 256 ≡ c → has_extent u f i ≡ has_at w (i % 256)
  inside i same = ap (λ (d : ℕ). at_place (chunk_at u (f, d)) (i % 256)) same ∙ ap (λ (o : Option (List Homes)). at_place o (i % 256)) change.here

  outside : (i : ℕ) → (i / 256 ≡ c → ⊥) → has_extent u f i ≡ has_extent t f i
  outside i other = ap (λ (o : Option (List Homes)). at_place o (i % 256)) (change.edit.others (f, i / 256) (other_chunk f (i / 256) c other))

  counted : HasCount u f (c * 256 + r)
  counted i = elim (cases_eq (i / 256) c) [
    | inl same ↦ (
      λ e. elim (cases_lt (i % 256) r) [
        | inl lt ↦ omega (arith, same, lt)
        | inr ge ↦ absurd (clash (has_extent u f i) e (inside i same ∙ reach.1 (i % 256) (omega (arith, size)) ge))
      ],
      λ lt. inside i same ∙ reach.0 (i % 256) (omega (arith, size)) (omega (arith, same, lt)),
    )
    | inr other ↦ (
      λ e. let lt : i < n = (count i).0 (sym (outside i other) ∙ e) in omega (arith, other, lt, high),
      λ lt. outside i other ∙ (count i).1 (omega (arith, other, lt, few, low)),
    )
  ]

-- ---- an extent more, and one less

pub item_at : (t : List Chunked) (k : Chunk) (homes : List Homes) → AllByRecursion (λ x. is_item (item_of_chunk x) ≡ true) t → chunk_at t k ≡ Some homes → is_item (item_of_chunk (k, homes)) ≡ true
item_at [] k homes all e = absurd cc
item_at (x ∷ t) k homes all e = elim (found_or k x t homes e) [
  | inl here ↦ ap (λ (j : Chunk). is_item (item_of_chunk (j, homes))) here.0 ∙ ap (λ (hs : List Homes). is_item (item_of_chunk (x.0, hs))) (sym here.1) ∙ all.0
  | inr behind ↦ item_at t k homes all.1 behind.1
]

pub set_change : (t : List Chunked) (k : Chunk) (w : List Homes) → IsExtentTable t → is_some (chunk_at t k) ≡ true → is_item (item_of_chunk (k, w)) ≡ true → IsChange t (set_value (is_at (chunk_cmp k)) t w) k w
set_change t k w fits there ok = record {
  here = set_here chunk_cmp same_chunk k w t there;
  edit = record {
    others = λ q other. set_other chunk_cmp same_chunk k w q other t;
    items = (set_ascends chunk_cmp same_chunk k w t fits.0.0, set_all chunk_cmp same_chunk (λ x. is_item (item_of_chunk x) ≡ true) k w t fits.0.1 ok);
  };
}

pub put_change : (t : List Chunked) (k : Chunk) (w : List Homes) → IsExtentTable t → is_item (item_of_chunk (k, w)) ≡ true → IsChange t (with_chunk t k w) k w
put_change t k w fits ok = record {
  here = put_here chunk_cmp same_chunk k w (found_self k.0 k.1) t;
  edit = record {
    others = λ q other. put_other chunk_cmp same_chunk k w q other t;
    items = put_keeps chunk_cmp chunk_total same_chunk item_of_chunk t k w ok fits.0;
  };
}

may_stand_parts : (i : ℕ) (homes : Homes) → may_stand i homes ≡ true → (i / 256 + 1 < 2 ^ 32) × (is_homes homes ≡ true) × (has_home homes ≡ true)
may_stand_parts i homes ok =
    let a = and_parts (ltb (i / 256 + 1) (2 ^ 32)) (is_homes homes && has_home homes) ok in
    let b = and_parts (is_homes homes) (has_home homes) a.1 in
    (ltb-true (i / 256 + 1) (2 ^ 32) a.0, b.0, b.1)

pub appends_extents : AppendsExtents
appends_extents t f n h fits count file ok = by (chunk_at t (f, n / 256)) refl where
  parts : (n / 256 + 1 < 2 ^ 32) × (is_homes h ≡ true) × (has_home h ≡ true)
  parts = may_stand_parts n h ok

  result : (u : List Chunked) (base : List Homes) → length base ≡ 256 → Reaches base (n % 256) → IsChange t u (f, n / 256) (slice_set base (n % 256) h) → IsExtentTable u × HasCount u f (suc n)
  result u base size reach change =
      let more = one_more base (n % 256) h (omega (arith, size)) parts.2 reach in
      let a = after t u f n (n / 256) (suc (n % 256)) (slice_set base (n % 256) h) fits count change (length-set base (n % 256) h ∙ size) more (omega arith) (omega arith) (omega arith) in
      subst (λ (m : ℕ). IsExtentTable u × HasCount u f m) (omega arith) a

  by : (o : Option (List Homes)) → chunk_at t (f, n / 256) ≡ o → IsExtentTable (with_extent t f n h) × HasCount (with_extent t f n h) f (suc n)
  by (Some hs) e =
      let size = size_of t (f, n / 256) hs fits.0.1 e in
      let allowed = set_allowed f (n / 256) hs (n % 256) h (item_at t (f, n / 256) hs fits.0.1 e) parts.1 in
      let change = set_change t (f, n / 256) (slice_set hs (n % 256) h) fits (ap is_some e) allowed in
      let is : with_extent t f n h ≡ set_value (is_at (chunk_cmp (f, n / 256))) t (slice_set hs (n % 256) h) = rw e refl in
      subst (λ (u : List Chunked). IsExtentTable u × HasCount u f (suc n)) (sym is) (result (set_value (is_at (chunk_cmp (f, n / 256))) t (slice_set hs (n % 256) h)) hs size (reaches t f n count fits (n / 256) (n % 256) hs e (omega arith)) change)
  by None e =
      let base = replicate 256 absent_homes in
      let allowed = new_allowed f (n / 256) (n % 256) h file parts.0 parts.1 in
      let change = put_change t (f, n / 256) (slice_set base (n % 256) h) fits allowed in
      let is : with_extent t f n h ≡ with_chunk t (f, n / 256) (slice_set base (n % 256) h) = rw e refl in
      subst (λ (u : List Chunked). IsExtentTable u × HasCount u f (suc n)) (sym is) (result (with_chunk t (f, n / 256) (slice_set base (n % 256) h)) base (length-replicate 256 absent_homes) (start e) change) where
        first : chunk_at t (f, n / 256) ≡ None → n % 256 ≡ 0
        first none = elim (cases_eq (n % 256) 0) [
          | inl zero_ ↦ zero_
          | inr other ↦ absurd (clash (at_place (chunk_at t (f, n / 256)) 0) (there t f n count (n / 256) 0 (omega arith) (omega (arith, other))) (ap (λ (o : Option (List Homes)). at_place o 0) none))
        ]

        start : chunk_at t (f, n / 256) ≡ None → Reaches (replicate 256 absent_homes) (n % 256)
        start none = ((λ p lt below. absurd (omega (arith, first none, below))), (λ p lt above. ap has_home (get_or-replicate 256 p absent_homes [] (omega (arith, lt, length-replicate 256 absent_homes)))))

abbrev less : List Chunked → ℕ → ℕ → List Homes → List Chunked
less t f n homes = set_value (is_at (chunk_cmp (f, n / 256))) t (slice_set homes (n % 256) absent_homes)

pub takes_last : TakesLast
takes_last t f n fits count = subst (λ (u : List Chunked). IsExtentTable u × HasCount u f n) (sym is) (subst (λ (m : ℕ). IsExtentTable (less t f n h.0) × HasCount (less t f n h.0) f m) (omega arith) a) where
  h : (homes : List Homes) × (chunk_at t (f, n / 256) ≡ Some homes) × (has_home (get_or homes (n % 256) []) ≡ true)
  h = the_chunk (chunk_at t (f, n / 256)) (n % 256) ((count n).1 (omega arith))

  size : length h.0 ≡ 256
  size = size_of t (f, n / 256) h.0 fits.0.1 h.1

  is : without_extent t f n ≡ less t f n h.0
  is = ap (λ (o : Option (List Homes)). set_value (is_at (chunk_cmp (f, n / 256))) t (slice_set (unwrap_or o []) (n % 256) absent_homes)) h.1

  change : IsChange t (less t f n h.0) (f, n / 256) (slice_set h.0 (n % 256) absent_homes)
  change = set_change t (f, n / 256) (slice_set h.0 (n % 256) absent_homes) fits (ap is_some h.1) (set_allowed f (n / 256) h.0 (n % 256) absent_homes (item_at t (f, n / 256) h.0 fits.0.1 h.1) refl)

  a : IsExtentTable (less t f n h.0) × HasCount (less t f n h.0) f (n / 256 * 256 + n % 256)
  a = after t (less t f n h.0) f (suc n) (n / 256) (n % 256) (slice_set h.0 (n % 256) absent_homes) fits count change (length-set h.0 (n % 256) absent_homes ∙ size) (one_less h.0 (n % 256) (omega (arith, size)) (reaches t f (suc n) count fits (n / 256) (suc (n % 256)) h.0 h.1 (omega arith))) (omega arith) (omega arith) (omega arith)

-- ---- counting by halves

pub no_extent_past : (t : List Chunked) (f i : ℕ) → IsExtentTable t → 1099511627520 ≤ i → has_extent t f i ≡ false
no_extent_past t f i fits past = elim (either (has_extent t f i)) [
  | inl e ↦
      let h = the_chunk (chunk_at t (f, i / 256)) (i % 256) e in
      let number = chunk_numbered f (i / 256) h.0 (item_at t (f, i / 256) h.0 fits.0.1 h.1) in
      absurd (omega (arith, past, number))
  | inr e ↦ e
]

pub more_below : (t : List Chunked) (f m : ℕ) → IsExtentTable t → has_extent t f m ≡ true → (i : ℕ) → i < m + 1 → has_extent t f i ≡ true
more_below t f m fits e i lt = has_to t f i m fits (omega (arith, lt)) e

pub none_above : (t : List Chunked) (f m : ℕ) → IsExtentTable t → has_extent t f m ≡ false → (i : ℕ) → m ≤ i → has_extent t f i ≡ false
none_above t f m fits none i le = elim (either (has_extent t f i)) [
  | inl e ↦ absurd (clash (has_extent t f m) (has_to t f m i fits le e) none)
  | inr e ↦ e
]

pub end_appends : (t : List Chunked) (f n : ℕ) → IsExtentTable t → HasCount t f n → f < 2 ^ 32 → (homes : Homes) → IsTrue (may_stand n homes) → IsExtentTable (with_extent t f n homes)
end_appends t f n fits count file homes ok = (appends_extents t f n homes fits count file ok).0

pub end_goes : (t : List Chunked) (f n : ℕ) → IsExtentTable t → HasCount t f n → (m : ℕ) → m + 1 ≡ n → IsExtentTable (without_extent t f m)
end_goes t f n fits count m e = (takes_last t f m fits (subst (HasCount t f) (omega (arith, e)) count)).0
