-- A table in which a chunk has other extents, more of them, or goes.
use Rattle.std.proofs.Common.{◌≡◌, ℕ, zero, suc, ◌+◌, ◌-◌, ◌*◌, ◌/◌, ◌%◌, ◌<◌, ◌≤◌, Bool, true, false, cond, eqb, List, [], ◌∷◌, ◌++◌, length, take, drop, get_or, replicate, Option, Some, None, refl, sym, ap, subst, ◌∙◌, arith, inl, inr, ◌⊎◌}
use Rattle.std.specs.Prelude.{◌&&◌, ◌||◌, not, slice_set}
use Rattle.std.specs.List.{list_all}
use Rattle.std.specs.Option.{is_some, unwrap_or}
use Rattle.std.specs.BTreeMap.{is_at}
use Rattle.std.specs.Map.{set_value}
use Rattle.std.proofs.lemmas.Bool.{and_parts, cases_lt, ne_eqb}
use Rattle.std.proofs.lemmas.List.{get_or_append_left, get_or-append_right, get_or-drop, get_or-replicate, get_or-take, length-append, length-drop, length-take, append-nil}
use Rattle.std.proofs.lemmas.List.Sums.{prefix_len-le-length, prefix_len_passes, prefix_len_stops}
use Rattle.std.proofs.lemmas.Option.{none-some}
use Rattle.std.proofs.Math.ListN.{take-append-drop}
use Rattle.asm_formats.specs.Items.{Homes, is_homes}
use Rattle.asm_base.proofs.Exact.{AreFitting}
use Rattle.asm_base.proofs.ItemTables.{removed_keeps}
use Rattle.extent_map.specs.Extents.{Chunked, HasCount, IsExtentTable, absent_homes, chunk_at, chunk_or_blank, count_in, follows, has_extent, has_home, is_blank, is_full, item_of_chunk, stand_first, with_chunk, with_extent, with_more, without_chunk}
use Rattle.asm_base.specs.Chunks.{Chunk, chunk_cmp}
use Rattle.extent_map.specs.Laws.{FillsChunks, ReplacesExtents, TakesChunks}
use Rattle.extent_map.proofs.Laws.{chunk_total, same_chunk}
use Rattle.extent_map.proofs.Values.{IsHomes, blank_fits, chunk_fits, more_allowed, set_allowed}
use Rattle.extent_map.proofs.Numbering.{Full, Stands, all_stand, at_place, clash, full_at, next_home, the_chunk}
use Rattle.extent_map.proofs.Lookups.{gone_here, gone_other, put_same}
use Rattle.extent_map.proofs.Ends.{IsChange, IsEdit, IsRight, edited_table, replaced_table}
use Rattle.extent_map.proofs.FileEnds.{Reaches, after, blank_by, count_is, has_at, has_to, item_at, none_above, put_change, same_place, set_change}

either : (b : Bool) → (b ≡ true) ⊎ (b ≡ false)
either true = inl refl
either false = inr refl

-- ---- other homes at a place

stand_set : (xs : List Homes) (p : ℕ) (h : Homes) (ended : Bool) → has_home h ≡ has_home (get_or xs p []) → stand_first ended (slice_set xs p h) ≡ stand_first ended xs
stand_set [] p h ended e = refl
stand_set (x ∷ xs) zero h ended e = ap (λ (b : Bool). cond (ended && b) false (stand_first (not b) xs)) e
stand_set (x ∷ xs) (suc p) h ended e = ap (λ (b : Bool). cond (ended && has_home x) false b) (stand_set xs p h (not (has_home x)) e)

full_set : (xs : List Homes) (p : ℕ) (h : Homes) → has_home h ≡ has_home (get_or xs p []) → is_full (slice_set xs p h) ≡ is_full xs
full_set [] p h e = refl
full_set (x ∷ xs) zero h e = ap (λ (b : Bool). b && is_full xs) e
full_set (x ∷ xs) (suc p) h e = ap (λ (b : Bool). has_home x && b) (full_set xs p h e)

blank_set : (xs : List Homes) (p : ℕ) (h : Homes) → has_home h ≡ has_home (get_or xs p []) → is_blank (slice_set xs p h) ≡ is_blank xs
blank_set [] p h e = refl
blank_set (x ∷ xs) zero h e = ap (λ (b : Bool). not b && is_blank xs) e
blank_set (x ∷ xs) (suc p) h e = ap (λ (b : Bool). not (has_home x) && b) (blank_set xs p h e)

pub replaces_extents : ReplacesExtents
replaces_extents t f i h fits there ok = subst IsExtentTable (sym is) (replaced_table t u k w fits change hs.0 hs.1 (stand_set hs.0 p h false same) (full_set hs.0 p h same) (blank_set hs.0 p h same)) where
  k : Chunk
  k = (f, i / 256)

  p : ℕ
  p = i % 256

  hs : (homes : List Homes) × (chunk_at t (f, i / 256) ≡ Some homes) × (has_home (get_or homes (i % 256) []) ≡ true)
  hs = the_chunk (chunk_at t (f, i / 256)) (i % 256) there

  w : List Homes
  w = slice_set hs.0 (i % 256) h

  u : List Chunked
  u = set_value (is_at (chunk_cmp (f, i / 256))) t (slice_set hs.0 (i % 256) h)

  parts : (is_homes h ≡ true) × (has_home h ≡ true)
  parts = and_parts (is_homes h) (has_home h) ok

  same : has_home h ≡ has_home (get_or hs.0 (i % 256) [])
  same = parts.1 ∙ sym hs.2

  change : IsChange t u k w
  change = set_change t (f, i / 256) (slice_set hs.0 (i % 256) h) fits (ap is_some hs.1) (set_allowed f (i / 256) hs.0 (i % 256) h (item_at t (f, i / 256) hs.0 fits.0.1 hs.1) parts.0)

  is : with_extent t f i h ≡ set_value (is_at (chunk_cmp (f, i / 256))) t (slice_set hs.0 (i % 256) h)
  is = ap (λ (o : Option (List Homes)). cond (is_some o) (set_value (is_at (chunk_cmp (f, i / 256))) t (slice_set (unwrap_or o []) (i % 256) h)) (with_chunk t (f, i / 256) (slice_set (replicate 256 absent_homes) (i % 256) h))) hs.1

-- ---- a chunk that goes

-- an extent that is there has those before it in its chunk
down_to : (homes : List Homes) (k j : ℕ) → Stands homes → has_at homes (j + k) ≡ true → has_at homes j ≡ true
down_to homes zero j stands e = ap (has_at homes) (omega arith) ∙ e
down_to homes (suc k) j stands e = down_to homes k j stands (next_home homes false (j + k) stands (ap (has_at homes) (omega arith) ∙ e))

pub none_from : (homes : List Homes) (j p : ℕ) → Stands homes → has_at homes j ≡ false → j ≤ p → has_at homes p ≡ false
none_from homes j p stands none le = elim (either (has_at homes p)) [
  | inl e ↦ absurd (clash (has_at homes j) (down_to homes (p - j) j stands (ap (has_at homes) (omega (arith, le)) ∙ e)) none)
  | inr e ↦ e
]

pub takes_chunks : TakesChunks
takes_chunks t f c fits none = edited_table t (without_chunk t (f, c)) (f, c) fits edit here behind where
  edit : IsEdit t (without_chunk t (f, c)) (f, c)
  edit = record {
    others = λ q other. gone_other chunk_cmp same_chunk chunk_total (f, c) q t other;
    items = removed_keeps chunk_cmp chunk_total item_of_chunk (is_at (chunk_cmp (f, c))) t fits.0;
  }

  here : (w : List Homes) → chunk_at (without_chunk t (f, c)) (f, c) ≡ Some w → IsRight None (without_chunk t (f, c)) (f, c) w
  here w e = absurd (none-some w (sym (gone_here chunk_cmp same_chunk chunk_total (f, c) t fits.0.0) ∙ e))

  behind : (homes : List Homes) → chunk_at t (f, c + 1) ≡ Some homes → (is_blank homes ≡ true) ⊎ (Full t (f, c) → Full (without_chunk t (f, c)) (f, c))
  behind homes e =
      let first : has_at homes 0 ≡ false = ap (λ (o : Option (List Homes)). at_place o 0) (sym e) ∙ sym (same_place t f (c + 1) 0 (omega arith)) ∙ ap (has_extent t f) (omega arith) ∙ none in
      inl (blank_by homes (λ p lt. none_from homes 0 p (all_stand t None (f, c + 1) homes fits.1 e) first (omega arith)))

-- ---- more extents

-- the chunk with more extents, by places
module _ (base homes : List Homes) (size : length base ≡ 256) (stands : Stands base) (there : is_full homes ≡ true) (room : count_in base + length homes ≤ 256) where
  abbrev pub n : ℕ
  n = count_in base

  abbrev pub m : ℕ
  m = count_in base + length homes

  pub front : length (take n base) ≡ n
  front = omega (arith, length-take n base, prefix_len-le-length has_home base)

  pub two : length (take n base ++ homes) ≡ m
  two = omega (arith, length-append (take n base) homes, front)

  pub more_long : length (with_more base homes) ≡ 256
  more_long = omega (arith, length-append (take n base ++ homes) (drop m base), two, length-drop m base, size, room)

  reaches_more : Reaches (with_more base homes) m
  reaches_more = (below, above) where
    below : (p : ℕ) → p < length (with_more base homes) → p < m → has_at (with_more base homes) p ≡ true
    below p lt small = ap has_home (get_or_append_left (take n base ++ homes) (drop m base) [] p (omega (arith, two, small))) ∙ elim (cases_lt p n) [
      | inl old ↦ ap has_home (get_or_append_left (take n base) homes [] p (omega (arith, front, old)) ∙ get_or-take n base p [] old) ∙ prefix_len_passes has_home base p [] old
      | inr new ↦ ap has_home (get_or-append_right (take n base) homes n p [] front new) ∙ full_at homes (p - n) there (omega (arith, small, new))
    ]

    stopped : n < length base → has_at base n ≡ false
    stopped lt = prefix_len_stops has_home base [] lt

    above : (p : ℕ) → p < length (with_more base homes) → m ≤ p → has_at (with_more base homes) p ≡ false
    above p lt past =
        let here : m + (p - m) ≡ p = omega (arith, past) in
        ap has_home (get_or-append_right (take n base ++ homes) (drop m base) m p [] two past ∙ get_or-drop m base (p - m) [] ∙ ap (λ (j : ℕ). get_or base j []) here)
        ∙ none_from base n p stands (stopped (omega (arith, lt, more_long, past, size))) (omega (arith, past))

blank_stands : Stands (replicate 256 absent_homes)
blank_stands = refl

-- the extents that the file has where its chunk isn't full
module _ (t : List Chunked) (f c : ℕ) (fits : IsExtentTable t) (ok : follows t f c ≡ true) where
  abbrev pub base : List Homes
  base = chunk_or_blank t (f, c)

  either_base : (A : List Homes → Type 0) → ((hs : List Homes) → chunk_at t (f, c) ≡ Some hs → A hs) → A (replicate 256 absent_homes) → A base
  either_base A there blank = by (chunk_at t (f, c)) refl where
    by : (o : Option (List Homes)) → chunk_at t (f, c) ≡ o → A (unwrap_or o (replicate 256 absent_homes))
    by None e = blank
    by (Some hs) e = there hs e

  pub base_fits : AreFitting IsHomes 256 base
  base_fits = either_base (λ hs. AreFitting IsHomes 256 hs) (λ hs e. chunk_fits f c hs (item_at t (f, c) hs fits.0.1 e)) blank_fits

  pub base_stands : Stands base
  base_stands = either_base Stands (λ hs e. all_stand t None (f, c) hs fits.1 e) blank_stands

  at_base : (p : ℕ) → p < 256 → at_place (chunk_at t (f, c)) p ≡ has_at base p
  at_base p lt = by (chunk_at t (f, c)) where
    none : has_at (replicate 256 absent_homes) p ≡ false
    none = ap has_home (get_or-replicate 256 p absent_homes [] lt)

    by : (o : Option (List Homes)) → at_place o p ≡ has_at (unwrap_or o (replicate 256 absent_homes)) p
    by None = sym none
    by (Some hs) = refl

  full_behind : (i : ℕ) → i < c * 256 → has_extent t f i ≡ true
  full_behind i lt = has_to t f i (c * 256 - 1) fits (omega (arith, lt)) (second (eqb c 0) (has_extent t f (c * 256 - 1)) ok (ne_eqb c 0 (λ e. omega (arith, e, lt)))) where
    second : (a b : Bool) → (a || b) ≡ true → a ≡ false → b ≡ true
    second true b e none = absurd (clash true refl none)
    second false b e none = e

  count_at : count_in base < 256 → HasCount t f (c * 256 + count_in base)
  count_at small = count_is t f (c * 256 + count_in base) below (λ i le. none_above t f (c * 256 + count_in base) fits none i le) where
    none : has_extent t f (c * 256 + count_in base) ≡ false
    none = same_place t f c (count_in base) small ∙ at_base (count_in base) small ∙ prefix_len_stops has_home base [] (omega (arith, small, base_fits.0))

    below : (i : ℕ) → i < c * 256 + count_in base → has_extent t f i ≡ true
    below i lt = elim (cases_lt i (c * 256)) [
      | inl before ↦ full_behind i before
      | inr here ↦
          let p : c * 256 + (i - c * 256) ≡ i = omega (arith, here) in
          ap (has_extent t f) (sym p) ∙ same_place t f c (i - c * 256) (omega (arith, lt, here, small)) ∙ at_base (i - c * 256) (omega (arith, lt, here, small)) ∙ prefix_len_passes has_home base (i - c * 256) [] (omega (arith, lt, here))
    ]

nothing_more : (hs : List Homes) (n : ℕ) → take n hs ++ [] ++ drop (n + 0) hs ≡ hs
nothing_more hs n = ap (λ (xs : List Homes). xs ++ drop (n + 0) hs) (append-nil (take n hs)) ∙ ap (λ (j : ℕ). take n hs ++ drop j hs) (omega arith) ∙ take-append-drop n hs

pub fills_chunks : FillsChunks
fills_chunks t f c homes fits file number ok behind room = elim (cases_lt (count_in base) 256) [
  | inl small ↦
      let count = count_at t f c fits behind small in
      (after t (with_chunk t (f, c) w) f (c * 256 + count_in base) c (count_in base + length homes) w fits count change long (reaches_more base homes size stands parts.1 room) room (omega arith) (omega (arith, small))).0
  | inr full ↦ by homes (omega (arith, full, room)) full (chunk_at t (f, c)) refl
] where
  base : List Homes
  base = chunk_or_blank t (f, c)

  w : List Homes
  w = with_more (chunk_or_blank t (f, c)) homes

  parts : (list_all is_homes homes ≡ true) × (is_full homes ≡ true)
  parts = and_parts (list_all is_homes homes) (list_all has_home homes) ok

  size : length (chunk_or_blank t (f, c)) ≡ 256
  size = (base_fits t f c fits behind).0

  stands : Stands (chunk_or_blank t (f, c))
  stands = base_stands t f c fits behind

  long : length (with_more (chunk_or_blank t (f, c)) homes) ≡ 256
  long = more_long (chunk_or_blank t (f, c)) homes size stands parts.1 room

  change : IsChange t (with_chunk t (f, c) (with_more (chunk_or_blank t (f, c)) homes)) (f, c) (with_more (chunk_or_blank t (f, c)) homes)
  change = put_change t (f, c) (with_more (chunk_or_blank t (f, c)) homes) fits
      (more_allowed f c (count_in (chunk_or_blank t (f, c))) (count_in (chunk_or_blank t (f, c)) + length homes) (chunk_or_blank t (f, c)) homes file number (base_fits t f c fits behind) parts.0 long)

  -- a full chunk gets no more
  by : (new : List Homes) → length new ≡ 0 → 256 ≤ count_in (chunk_or_blank t (f, c)) → (o : Option (List Homes)) → chunk_at t (f, c) ≡ o → IsExtentTable (with_chunk t (f, c) (with_more (chunk_or_blank t (f, c)) new))
  by (h ∷ new) none full o e = absurd (omega (arith, none))
  by [] none full None e = let few : 256 ≤ count_in (replicate 256 absent_homes) = rw e at full in absurd (omega (arith, few))
  by [] none full (Some hs) e =
      let its : with_more (chunk_or_blank t (f, c)) [] ≡ hs = rw e (nothing_more hs (count_in hs)) in
      subst IsExtentTable (sym (ap (λ (v : List Homes). with_chunk t (f, c) v) its ∙ put_same chunk_cmp same_chunk chunk_total (f, c) hs t fits.0.0 e)) fits
