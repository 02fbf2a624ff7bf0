-- What tables say of an extent once a plan of extents was carried out.
use Rattle.std.proofs.Common.{◌≡◌, ℕ, zero, suc, ◌+◌, ◌/◌, ◌%◌, ◌^◌, ◌<◌, ◌-◌, ◌≤◌, Bool, true, false, cond, List, [], ◌∷◌, ◌++◌, length, take, drop, get_or, replicate, Option, Some, None, refl, sym, ap, ◌∙◌, arith, inl, inr, ◌⊎◌}
use Rattle.std.specs.Prelude.{◌||◌, slice_set, bit_xor, bit_and, eqb}
use Rattle.std.specs.List.{list_all, range_with_len}
use Rattle.std.specs.Int.{bit_at}
use Rattle.std.specs.Option.{is_some, unwrap_or}
use Rattle.std.specs.BTreeMap.{insert_entry, is_at}
use Rattle.std.specs.Map.{lookup, set_value}
use Rattle.std.proofs.lemmas.Bool.{and_parts, cases_eq, cases_lt, eqb-true, eqb-false, ne_eqb}
use Rattle.std.proofs.lemmas.List.{get_or_append_left, get_or-append_right, get_or-drop, get_or-set_same, get_or-set_other, get_or-replicate, get_or-take, get_or_past, length-append, length-replicate, length-take}
use Rattle.std.proofs.lemmas.Nat.Bits.{bit_at-lt, bit_at-pow_other, bit_at_xor, bit_at_and, bit_at_or}
use Rattle.std.proofs.lemmas.Option.{none-some, same_Some}
use Rattle.asm_formats.specs.Items.{Home, Homes, is_home, is_homes, is_item}
use Rattle.asm_formats.specs.Sets.{has_bit}
use Rattle.asm_placement.specs.Moves.{without_bit}
use Rattle.asm_base.specs.Chunks.{Chunk, chunk_cmp}
use Rattle.extent_map.specs.Extents.{Chunked, absent_homes, chunk_at, chunk_or_blank, count_in, with_extent, with_more}
use Rattle.extent_map.proofs.FileEnds.{item_at}
use Rattle.extent_map.proofs.Laws.{chunk_total, same_chunk}
use Rattle.extent_map.proofs.Lookups.{key_is, put_here, put_other, set_here, set_other}
use Rattle.extent_map.proofs.Numbering.{found_self, size_of}
use Rattle.staleness_directory.specs.Marks.{Marked, item_of_marks, marks_at}
use Rattle.catalog.specs.ExtentPlans.{first_new, home_at, homes_moved, marks_behind, marks_changed, with_appended, with_marks_at, with_marks_changed, with_move}
use Rattle.catalog.proofs.MarkPlans.{are_marks, marks_small}
use Rattle.catalog_tables.specs.Rules.{homes_at, marks_of}
use Rattle.catalog_tables.specs.Tables.{AreTables, Tables}
use Rattle.catalog.proofs.MovePlans.{all_at, homes_allowed}
use Rattle.catalog_tables.proofs.EntryLaws.{either, holds_at}
use Rattle.catalog_tables.proofs.PlacingLaws.{all_in}
use Rattle.flight_laws.specs.Agreeing.{HasCurrent}

-- ---- a place of a chunk in a table of chunks

module _ {A : Type 0} (d : A) where
  -- what stands there, and d where the chunk isn't there
  abbrev pub found : List (Chunk × List A) → Chunk → ℕ → A
  found es q p = get_or (unwrap_or (lookup (is_at (chunk_cmp q)) es) []) p d

  pub put_found : (es : List (Chunk × List A)) (k : Chunk) (v : List A) (p : ℕ) → found (insert_entry chunk_cmp es k v) k p ≡ get_or v p d
  put_found es k v p = ap (λ (o : Option (List A)). get_or (unwrap_or o []) p d) (put_here chunk_cmp same_chunk k v (found_self k.0 k.1) es)

  -- another value of the chunk that has the same at a place
  pub put_stays : (es : List (Chunk × List A)) (k q : Chunk) (v : List A) (p : ℕ) → (q ≡ k → get_or v p d ≡ found es k p) → found (insert_entry chunk_cmp es k v) q p ≡ found es q p
  put_stays es k q v p same_there = elim (either (is_at (chunk_cmp q) k)) [
    | inl hit ↦
        let same : q ≡ k = key_is chunk_cmp same_chunk chunk_total q k hit in
        ap (λ (x : Chunk). found (insert_entry chunk_cmp es k v) x p) same ∙ put_found es k v p ∙ same_there same ∙ ap (λ (x : Chunk). found es x p) (sym same)
    | inr miss ↦ ap (λ (o : Option (List A)). get_or (unwrap_or o []) p d) (put_other chunk_cmp same_chunk k v q miss es)
  ]

  pub set_found : (es : List (Chunk × List A)) (k : Chunk) (v : List A) (p : ℕ) → is_some (lookup (is_at (chunk_cmp k)) es) ≡ true → found (set_value (is_at (chunk_cmp k)) es v) k p ≡ get_or v p d
  set_found es k v p there = ap (λ (o : Option (List A)). get_or (unwrap_or o []) p d) (set_here chunk_cmp same_chunk k v es there)

  pub set_stays : (es : List (Chunk × List A)) (k q : Chunk) (v : List A) (p : ℕ) → is_some (lookup (is_at (chunk_cmp k)) es) ≡ true → (q ≡ k → get_or v p d ≡ found es k p)
      → found (set_value (is_at (chunk_cmp k)) es v) q p ≡ found es q p
  set_stays es k q v p there same_there = elim (either (is_at (chunk_cmp q) k)) [
    | inl hit ↦
        let same : q ≡ k = key_is chunk_cmp same_chunk chunk_total q k hit in
        ap (λ (x : Chunk). found (set_value (is_at (chunk_cmp k)) es v) x p) same ∙ set_found es k v p there ∙ same_there same ∙ ap (λ (x : Chunk). found es x p) (sym same)
    | inr miss ↦ ap (λ (o : Option (List A)). get_or (unwrap_or o []) p d) (set_other chunk_cmp same_chunk k v q miss es)
  ]

-- ---- one extent

-- another extent of the same chunk is at another place
other_place : (f i a j : ℕ) → (a ≡ f → j ≡ i → ⊥) → ◌≡◌ {A = Chunk} (a, j / 256) (f, i / 256) → j % 256 ≡ i % 256 → ⊥
other_place f i a j apart same place =
    let files : a ≡ f = ap (λ (q : Chunk). q.0) same in
    let chunks : j / 256 ≡ i / 256 = ap (λ (q : Chunk). q.1) same in
    apart files (omega (arith, chunks, place))

-- no home stands in an extent that isn't there
no_home : (p c : ℕ) → get_or (get_or (replicate 256 absent_homes) p []) c None ≡ None
no_home p c = elim (cases_lt p 256) [
  | inl lt ↦ ap (λ (hs : Homes). get_or hs c None) (get_or-replicate 256 p absent_homes [] lt) ∙ none_in c
  | inr past ↦ ap (λ (hs : Homes). get_or hs c None) (get_or_past (replicate 256 absent_homes) p [] (omega (arith, past, length-replicate {A = Homes} 256 absent_homes)))
] where
  none_in : (c : ℕ) → get_or absent_homes c None ≡ None
  none_in zero = refl
  none_in (suc zero) = refl
  none_in (suc (suc zero)) = refl
  none_in (suc (suc (suc c))) = refl

-- the table of extents with these homes of an extent
module _ (t : Tables) (are : AreTables t) (f i : ℕ) (hs : Homes) where
  abbrev k : Chunk
  k = (f, i / 256)

  abbrev by_chunk : Option (List Homes) → List Chunked
  by_chunk o = cond (is_some o) (set_value (is_at (chunk_cmp k)) t.extents (slice_set (unwrap_or o []) (i % 256) hs)) (insert_entry chunk_cmp t.extents k (slice_set (replicate 256 absent_homes) (i % 256) hs))

  pub extent_here : found [] (with_extent t.extents f i hs) k (i % 256) ≡ hs
  extent_here = by (chunk_at t.extents k) refl where
    by : (o : Option (List Homes)) → chunk_at t.extents k ≡ o → found [] (with_extent t.extents f i hs) k (i % 256) ≡ hs
    by (Some w) e =
        ap (λ (o : Option (List Homes)). found [] (by_chunk o) k (i % 256)) e ∙ set_found [] t.extents k (slice_set w (i % 256) hs) (i % 256) (ap is_some e)
        ∙ get_or-set_same w (i % 256) hs [] (omega (arith, size_of t.extents k w are.extents.0.1 e))
    by None e =
        ap (λ (o : Option (List Homes)). found [] (by_chunk o) k (i % 256)) e ∙ put_found [] t.extents k (slice_set (replicate 256 absent_homes) (i % 256) hs) (i % 256)
        ∙ get_or-set_same (replicate 256 absent_homes) (i % 256) hs [] (omega (arith, length-replicate {A = Homes} 256 absent_homes))

  -- an extent at another place has the homes that it had
  module _ (a j c : ℕ) (apart : a ≡ f → j ≡ i → ⊥) where
    abbrev q : Chunk
    q = (a, j / 256)

    abbrev home_by : List Chunked → Option Home
    home_by es = get_or (found [] es q (j % 256)) c None

    pub extent_other : home_by (with_extent t.extents f i hs) ≡ home_by t.extents
    extent_other = by (chunk_at t.extents k) refl where
      by : (o : Option (List Homes)) → chunk_at t.extents k ≡ o → home_by (with_extent t.extents f i hs) ≡ home_by t.extents
      by (Some w) e =
          ap (λ (o : Option (List Homes)). home_by (by_chunk o)) e ∙ ap (λ (x : Homes). get_or x c None) (set_stays [] t.extents k q (slice_set w (i % 256) hs) (j % 256) (ap is_some e)
          (λ same. get_or-set_other w (i % 256) (j % 256) hs [] (other_place f i a j apart same) ∙ ap (λ (o : Option (List Homes)). get_or (unwrap_or o []) (j % 256) []) (sym e)))
      by None e = ap (λ (o : Option (List Homes)). home_by (by_chunk o)) e ∙ elim (either (is_at (chunk_cmp q) k)) [
        | inl hit ↦
            let same : q ≡ k = key_is chunk_cmp same_chunk chunk_total q k hit in
            ap (λ (x : Chunk). get_or (found [] (by_chunk None) x (j % 256)) c None) same
            ∙ ap (λ (x : Homes). get_or x c None) (put_found [] t.extents k (slice_set (replicate 256 absent_homes) (i % 256) hs) (j % 256) ∙ get_or-set_other (replicate 256 absent_homes) (i % 256) (j % 256) hs [] (other_place f i a j apart same))
            ∙ no_home (j % 256) c ∙ ap (λ (o : Option (List Homes)). get_or (get_or (unwrap_or o []) (j % 256) []) c None) (sym e) ∙ ap (λ (x : Chunk). get_or (found [] t.extents x (j % 256)) c None) (sym same)
        | inr miss ↦ ap (λ (o : Option (List Homes)). get_or (get_or (unwrap_or o []) (j % 256) []) c None) (put_other chunk_cmp same_chunk k (slice_set (replicate 256 absent_homes) (i % 256) hs) q miss t.extents)
      ]

-- ---- its marks

-- where a chunk has no marks, none is set
blank_marks : (o : Option (List ℕ)) (p : ℕ) → p < 256 → get_or (unwrap_or o (replicate 256 0)) p 0 ≡ get_or (unwrap_or o []) p 0
blank_marks (Some m) p lt = refl
blank_marks None p lt = get_or-replicate 256 p 0 0 lt

marks_long : (t : Tables) (k : Chunk) (o : Option (List ℕ)) → AreTables t → marks_at t.stale k ≡ o → length (unwrap_or o (replicate 256 0)) ≡ 256
marks_long t k None are at = length-replicate {A = ℕ} 256 0
marks_long t k (Some m) are at = (are_marks k.0 k.1 m (holds_at chunk_cmp same_chunk chunk_total (λ (x : Marked). is_item (item_of_marks x) ≡ true) t.stale k m are.stale.1 at)).size

-- the table of marks with others of an extent
module _ (t : Tables) (are : AreTables t) (f i v : ℕ) where
  abbrev chunk : Chunk
  chunk = (f, i / 256)

  abbrev old : List ℕ
  old = unwrap_or (marks_at t.stale chunk) (replicate 256 0)

  pub mark_here : found 0 (with_marks_at t.stale f i v) chunk (i % 256) ≡ v
  mark_here = put_found 0 t.stale chunk (slice_set old (i % 256) v) (i % 256) ∙ get_or-set_same old (i % 256) v 0 (omega (arith, marks_long t chunk (marks_at t.stale chunk) are refl))

  pub mark_other : (a j : ℕ) → (a ≡ f → j ≡ i → ⊥) → found 0 (with_marks_at t.stale f i v) (a, j / 256) (j % 256) ≡ found 0 t.stale (a, j / 256) (j % 256)
  mark_other a j apart = put_stays 0 t.stale chunk (a, j / 256) (slice_set old (i % 256) v) (j % 256) (λ same.
      get_or-set_other old (i % 256) (j % 256) v 0 (other_place f i a j apart same) ∙ blank_marks (marks_at t.stale chunk) (j % 256) (omega arith))

-- the marks of an extent are bits of three copies
pub marks_low : (t : Tables) (f i : ℕ) → AreTables t → marks_of t f i < 8
marks_low t f i are = by (marks_at t.stale (f, i / 256)) refl where
  by : (o : Option (List ℕ)) → marks_at t.stale (f, i / 256) ≡ o → marks_of t f i < 8
  by None at = omega (arith, ap (λ (o : Option (List ℕ)). get_or (unwrap_or o []) (i % 256) 0) at)
  by (Some m) at =
      let small = (are_marks f (i / 256) m (holds_at chunk_cmp same_chunk chunk_total (λ (x : Marked). is_item (item_of_marks x) ≡ true) t.stale (f, i / 256) m are.stale.1 at)).small in
      omega (arith, ap (λ (o : Option (List ℕ)). get_or (unwrap_or o []) (i % 256) 0) at, marks_small m (i % 256) small)

-- a mark that isn't set once another one is cleared wasn't before
mark_less : (set n k : ℕ) → (k ≡ n → ⊥) → has_bit (without_bit set n) k ≡ false → has_bit set k ≡ false
unfolding has_bit without_bit
mark_less set n k other = by (eqb (bit_at set n) 1)
  where
    by : (b : Bool) → eqb (bit_at (cond b (bit_xor set (2 ^ n)) set) k) 1 ≡ false → eqb (bit_at set k) 1 ≡ false
    by true e = ne_eqb (bit_at set k) 1 (λ was. eqb-false (bit_at (bit_xor set (2 ^ n)) k) 1 e (omega (arith, was, bit_at_xor set (2 ^ n) k, bit_at-pow_other n k other)))
    by false e = e

-- ---- a copy that moves

-- what is current once a copy moved was so before, or is the copy at its new home
pub moved_current : (t : Tables) (f i copy : ℕ) (h : Home) (a j c : ℕ) (home : Home) → AreTables t → HasCurrent (with_move t f i copy h) a j c home
    → HasCurrent t a j c home ⊎ ((a ≡ f) × (j ≡ i) × (home ≡ h))
moved_current t f i copy h a j c home are is = elim (cases_eq a f) [
  | inl same_file ↦ elim (cases_eq j i) [
    | inl same ↦
        let at : get_or (homes_moved t f i copy h) c None ≡ Some home =
        ap (λ (x : Homes). get_or x c None) (sym (extent_here t are f i (homes_moved t f i copy h))) ∙ ap (λ (x : ℕ). home_at u x i c) (sym same_file) ∙ ap (λ (x : ℕ). home_at u a x c) (sym same) ∙ is.0 in
        let bits : has_bit (without_bit (marks_of t f i) copy) c ≡ false =
        ap (λ (x : ℕ). has_bit x c) (sym (mark_here t are f i (without_bit (marks_of t f i) copy))) ∙ ap (λ (x : ℕ). has_bit (marks_of u x i) c) (sym same_file) ∙ ap (λ (x : ℕ). has_bit (marks_of u a x) c) (sym same) ∙ is.1 in
        elim (cases_eq c copy) [
          | inl its ↦ inr (same_file, same, set_some (homes_at t f i) copy h home (ap (λ (x : ℕ). get_or (homes_moved t f i copy h) x None) (sym its) ∙ at))
          | inr other ↦ inl (
            ap (λ (x : ℕ). home_at t x j c) same_file ∙ ap (λ (x : ℕ). home_at t f x c) same ∙ sym (get_or-set_other (homes_at t f i) copy c (Some h) None other) ∙ at,
            ap (λ (x : ℕ). has_bit (marks_of t x j) c) same_file ∙ ap (λ (x : ℕ). has_bit (marks_of t f x) c) same ∙ mark_less (marks_of t f i) copy c other bits,
          )
        ]
    | inr differ ↦ inl (stays (λ e. differ))
  ]
  | inr differ ↦ inl (stays (λ e. absurd (differ e)))
] where
  u : Tables
  u = with_move t f i copy h

  set_some : (hs : Homes) (p : ℕ) (x y : Home) → get_or (slice_set hs p (Some x)) p None ≡ Some y → y ≡ x
  set_some [] p x y e = absurd (none-some y e)
  set_some (o ∷ hs) zero x y e = sym (same_Some x y e)
  set_some (o ∷ hs) (suc p) x y e = set_some hs p x y e

  stays : (a ≡ f → j ≡ i → ⊥) → HasCurrent t a j c home
  stays apart = (
    sym (extent_other t are f i (homes_moved t f i copy h) a j c apart) ∙ is.0,
    ap (λ (x : ℕ). has_bit x c) (sym (mark_other t are f i (without_bit (marks_of t f i) copy) a j apart)) ∙ is.1,
  )

-- ---- marks that change

-- a bit of three that isn't among those that are cleared stays
may_stay : ℕ → ℕ → Bool
may_stay clear c = has_bit clear c || has_bit (255 - clear) c

all_may_stay : list_all (λ clear. list_all (may_stay clear) (range_with_len 0 3)) (range_with_len 0 8) ≡ true
unfolding has_bit may_stay
all_may_stay = refl

bit_stays : (clear c : ℕ) → clear < 8 → c < 3 → may_stay clear c ≡ true
bit_stays clear c few low = all_in (may_stay clear) 0 3 (all_in (λ n. list_all (may_stay n) (range_with_len 0 3)) 0 8 all_may_stay clear (omega arith) few) c (omega arith) low

-- a mark that isn't set afterwards wasn't before, or was cleared
unmarked_by : (old set clear c : ℕ) → clear < 8 → c < 3 → has_bit (marks_changed old set clear) c ≡ false → (has_bit old c ≡ false) ⊎ (has_bit clear c ≡ true)
unfolding has_bit may_stay
unmarked_by old set clear c few low e = by (eqb (bit_at clear c) 1) refl (bit_stays clear c few low) where
  by : (b : Bool) → eqb (bit_at clear c) 1 ≡ b → (b || eqb (bit_at (255 - clear) c) 1) ≡ true → (eqb (bit_at old c) 1 ≡ false) ⊎ (eqb (bit_at clear c) 1 ≡ true)
  by true q one = inr q
  by false q one = inl (ne_eqb (bit_at old c) 1 (λ was. eqb-false (bit_at (marks_changed old set clear) c) 1 e
      (omega (arith, was, eqb-true (bit_at (255 - clear) c) 1 one, bit_at_or (bit_and old (255 - clear)) set c, bit_at_and old (255 - clear) c, bit_at-lt set c))))

-- an extent has homes of three copies
pub copy_low : (t : Tables) (f i copy : ℕ) (h : Home) → AreTables t → home_at t f i copy ≡ Some h → copy < 3
copy_low t f i copy h are has = by (chunk_at t.extents (f, i / 256)) refl where
  by : (o : Option (List Homes)) → chunk_at t.extents (f, i / 256) ≡ o → copy < 3
  by None e = absurd (none-some h (ap (λ (o : Option (List Homes)). get_or (get_or (unwrap_or o []) (i % 256) []) copy None) (sym e) ∙ has))
  by (Some w) e =
      let own : get_or (get_or w (i % 256) []) copy None ≡ Some h = ap (λ (o : Option (List Homes)). get_or (get_or (unwrap_or o []) (i % 256) []) copy None) (sym e) ∙ has in
      let ok : is_homes (get_or w (i % 256) []) ≡ true = all_at is_homes w (i % 256) [] (homes_allowed f (i / 256) w (item_at t.extents (f, i / 256) w are.extents.0.1 e)) (omega (arith, size_of t.extents (f, i / 256) w are.extents.0.1 e)) in
      let three : length (get_or w (i % 256) []) ≡ 3 = eqb-true (length (get_or w (i % 256) [])) 3 (and_parts (eqb (length (get_or w (i % 256) [])) 3) (list_all is_home (get_or w (i % 256) [])) ok).0 in
      elim (cases_lt copy 3) [
        | inl lt ↦ lt
        | inr past ↦ absurd (none-some h (sym (get_or_past (get_or w (i % 256) []) copy None (omega (arith, three, past))) ∙ own))
      ]

pub marked_current : (t : Tables) (f i set clear a j c : ℕ) (home : Home) → AreTables t → clear < 8 → HasCurrent (with_marks_changed t f i set clear) a j c home
    → HasCurrent t a j c home ⊎ ((a ≡ f) × (j ≡ i) × (home_at t f i c ≡ Some home) × (has_bit clear c ≡ true))
marked_current t f i set clear a j c home are few is = elim (cases_eq a f) [
  | inl same_file ↦ elim (cases_eq j i) [
    | inl same ↦
        let here : home_at t f i c ≡ Some home = ap (λ (x : ℕ). home_at t x i c) (sym same_file) ∙ ap (λ (x : ℕ). home_at t a x c) (sym same) ∙ is.0 in
        let bits : has_bit new c ≡ false =
        ap (λ (x : ℕ). has_bit x c) (sym (mark_here t are f i new)) ∙ ap (λ (x : ℕ). has_bit (marks_of u x i) c) (sym same_file) ∙ ap (λ (x : ℕ). has_bit (marks_of u a x) c) (sym same) ∙ is.1 in
        elim (unmarked_by (marks_of t f i) set clear c few (copy_low t f i c home are here) bits) [
          | inl was ↦ inl (is.0, ap (λ (x : ℕ). has_bit (marks_of t x j) c) same_file ∙ ap (λ (x : ℕ). has_bit (marks_of t f x) c) same ∙ was)
          | inr gone ↦ inr (same_file, same, here, gone)
        ]
    | inr differ ↦ inl (stays (λ e. differ))
  ]
  | inr differ ↦ inl (stays (λ e. absurd (differ e)))
] where
  u : Tables
  u = with_marks_changed t f i set clear

  new : ℕ
  new = marks_changed (marks_of t f i) set clear

  stays : (a ≡ f → j ≡ i → ⊥) → HasCurrent t a j c home
  stays apart = (is.0, ap (λ (x : ℕ). has_bit x c) (sym (mark_other t are f i new a j apart)) ∙ is.1)

-- ---- a chunk that gets extents

-- the places of a list with another one behind its first places
module _ {A : Type 0} (first : ℕ) (xs ys : List A) (d : A) (inside : first + length ys ≤ length xs) where
  abbrev with_others : List A
  with_others = take first xs ++ ys ++ drop (first + length ys) xs

  ahead : length (take first xs) ≡ first
  ahead = omega (arith, length-take first xs, inside)

  ahead_two : length (take first xs ++ ys) ≡ first + length ys
  ahead_two = omega (arith, length-append (take first xs) ys, ahead)

  at_others : (p : ℕ) → p < length ys → get_or with_others (first + p) d ≡ get_or ys p d
  at_others p lt =
      let same : first + p - first ≡ p = omega arith in
      get_or_append_left (take first xs ++ ys) (drop (first + length ys) xs) d (first + p) (omega (arith, ahead_two, lt))
      ∙ get_or-append_right (take first xs) ys first (first + p) d ahead (omega arith) ∙ ap (λ (j : ℕ). get_or ys j d) same

  at_rest : (p : ℕ) → (first ≤ p → p < first + length ys → ⊥) → get_or with_others p d ≡ get_or xs p d
  at_rest p out = elim (cases_lt p first) [
    | inl lt ↦
        get_or_append_left (take first xs ++ ys) (drop (first + length ys) xs) d p (omega (arith, ahead_two, lt)) ∙ get_or_append_left (take first xs) ys d p (omega (arith, ahead, lt))
        ∙ get_or-take first xs p d lt
    | inr past ↦ elim (cases_lt p (first + length ys)) [
      | inl lt ↦ absurd (out past lt)
      | inr behind ↦
          let at : (first + length ys) + (p - (first + length ys)) ≡ p = omega (arith, behind) in
          get_or-append_right (take first xs ++ ys) (drop (first + length ys) xs) (first + length ys) p d ahead_two behind ∙ get_or-drop (first + length ys) xs (p - (first + length ys)) d
          ∙ ap (λ (j : ℕ). get_or xs j d) at
    ]
  ]

module _ (t : Tables) (are : AreTables t) (f n : ℕ) (homes : List Homes) (marks : List ℕ) (room : count_in (chunk_or_blank t.extents (f, n)) + length homes ≤ 256) (same : length marks ≡ length homes) where
  abbrev pub appended : Tables
  appended = with_appended t f n homes marks

  abbrev base : List Homes
  base = chunk_or_blank t.extents (f, n)

  abbrev count : ℕ
  count = count_in base

  abbrev old_marks : List ℕ
  old_marks = unwrap_or (marks_at t.stale (f, n)) (replicate 256 0)

  base_long : length base ≡ 256
  base_long = by (chunk_at t.extents (f, n)) refl where
    by : (o : Option (List Homes)) → chunk_at t.extents (f, n) ≡ o → length (unwrap_or o (replicate 256 absent_homes)) ≡ 256
    by (Some w) e = size_of t.extents (f, n) w are.extents.0.1 e
    by None e = length-replicate {A = Homes} 256 absent_homes

  homes_fit : count + length homes ≤ length base
  homes_fit = omega (arith, room, base_long)

  marks_fit : count + length marks ≤ length old_marks
  marks_fit = omega (arith, room, same, marks_long t (f, n) (marks_at t.stale (f, n)) are refl)

  -- the new extents have these homes and marks
  module _ (p : ℕ) (lt : p < length homes) where
    chunk_is : (first_new t f n + p) / 256 ≡ n
    chunk_is = omega (arith, lt, room)

    place_is : (first_new t f n + p) % 256 ≡ count + p
    place_is = omega (arith, lt, room)

    pub new_homes : homes_at appended f (first_new t f n + p) ≡ get_or homes p []
    new_homes =
        ap (λ (x : ℕ). found [] appended.extents (f, x) ((first_new t f n + p) % 256)) chunk_is ∙ ap (λ (x : ℕ). found [] appended.extents (f, n) x) place_is
        ∙ put_found [] t.extents (f, n) (with_more base homes) (count + p) ∙ at_others count base homes [] homes_fit p lt

    pub new_marks : marks_of appended f (first_new t f n + p) ≡ get_or marks p 0
    new_marks =
        ap (λ (x : ℕ). found 0 appended.stale (f, x) ((first_new t f n + p) % 256)) chunk_is ∙ ap (λ (x : ℕ). found 0 appended.stale (f, n) x) place_is
        ∙ put_found 0 t.stale (f, n) (marks_behind count old_marks marks) (count + p) ∙ at_others count old_marks marks 0 marks_fit p (omega (arith, lt, same))

  -- the others have those that they had
  module _ (a j : ℕ) (out : a ≡ f → first_new t f n ≤ j → j < first_new t f n + length homes → ⊥) where
    outside : (size : ℕ) → size ≡ length homes → ◌≡◌ {A = Chunk} (a, j / 256) (f, n) → count ≤ j % 256 → j % 256 < count + size → ⊥
    outside size is at low high =
        let chunk : j / 256 ≡ n = ap (λ (q : Chunk). q.1) at in
        out (ap (λ (q : Chunk). q.0) at) (omega (arith, chunk, low)) (omega (arith, chunk, high, is))

    -- what stands where a chunk has none
    blank_home : (o : Option (List Homes)) (c : ℕ) → get_or (get_or (unwrap_or o (replicate 256 absent_homes)) (j % 256) []) c None ≡ get_or (get_or (unwrap_or o []) (j % 256) []) c None
    blank_home (Some w) c = refl
    blank_home None c = no_home (j % 256) c

    pub home_stays : (c : ℕ) → home_at appended a j c ≡ home_at t a j c
    home_stays c = elim (either (is_at (chunk_cmp (a, j / 256)) (f, n))) [
      | inl hit ↦
          let at : (a, j / 256) ≡ (f, n) = key_is chunk_cmp same_chunk chunk_total (a, j / 256) (f, n) hit in
          ap (λ (x : Chunk). get_or (found [] appended.extents x (j % 256)) c None) at
          ∙ ap (λ (x : Homes). get_or x c None) (put_found [] t.extents (f, n) (with_more base homes) (j % 256) ∙ at_rest count base homes [] homes_fit (j % 256) (outside (length homes) refl at))
          ∙ blank_home (chunk_at t.extents (f, n)) c ∙ ap (λ (x : Chunk). get_or (found [] t.extents x (j % 256)) c None) (sym at)
      | inr miss ↦ ap (λ (o : Option (List Homes)). get_or (get_or (unwrap_or o []) (j % 256) []) c None) (put_other chunk_cmp same_chunk (f, n) (with_more base homes) (a, j / 256) miss t.extents)
    ]

    pub marks_stay : marks_of appended a j ≡ marks_of t a j
    marks_stay = put_stays 0 t.stale (f, n) (a, j / 256) (marks_behind count old_marks marks) (j % 256) (λ at.
        at_rest count old_marks marks 0 marks_fit (j % 256) (outside (length marks) same at) ∙ blank_marks (marks_at t.stale (f, n)) (j % 256) (omega arith))

  -- where a chunk isn't there, it has no extent
  pub homes_stay : (a j : ℕ) → (a ≡ f → j < first_new t f n) → homes_at appended a j ≡ homes_at t a j
  homes_stay a j before = put_stays [] t.extents (f, n) (a, j / 256) (with_more base homes) (j % 256) (λ at.
      let chunk : j / 256 ≡ n = ap (λ (q : Chunk). q.1) at in
      let lt : j < first_new t f n = before (ap (λ (q : Chunk). q.0) at) in
      at_rest count base homes [] homes_fit (j % 256) (λ low high. omega (arith, chunk, lt, low)) ∙ by (chunk_at t.extents (f, n)) refl (omega (arith, chunk, lt))) where
        none_there : count_in (replicate 256 absent_homes) ≡ 0
        none_there = refl

        by : (o : Option (List Homes)) → chunk_at t.extents (f, n) ≡ o → j % 256 < count_in (unwrap_or o (replicate 256 absent_homes)) → get_or (unwrap_or o (replicate 256 absent_homes)) (j % 256) [] ≡ get_or (unwrap_or o []) (j % 256) []
        by (Some w) e lt = refl
        by None e lt = absurd (omega (arith, none_there, lt))
