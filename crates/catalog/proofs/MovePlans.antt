-- Plans of a copy's new home.
use Rattle.std.proofs.Common.{◌≡◌, ◌<◌, ◌+◌, ◌*◌, ◌/◌, ◌%◌, ◌^◌, ℕ, zero, suc, Bool, true, false, cond, eqb, ltb, List, [], ◌∷◌, length, get_or, replicate, Option, Some, None, refl, sym, ap, subst, ◌∙◌, arith, inl, inr}
use Rattle.std.specs.Prelude.{◌&&◌, ◌||◌, not, bit_xor, slice_set}
use Rattle.std.specs.Int.{bit_at}
use Rattle.std.specs.List.{list_all, zip}
use Rattle.std.specs.Option.{is_some, unwrap_or}
use Rattle.std.specs.BTreeMap.{insert_entry, is_at}
use Rattle.std.specs.Map.{set_value}
use Rattle.std.proofs.lemmas.Bool.{and_parts, cases_eq, eq-eqb, eqb-true, lt-ltb, true≢false}
use Rattle.std.proofs.lemmas.List.{get_or-set_other, get_or-set_same, length-set, set-get_or}
use Rattle.std.proofs.lemmas.List.FromFn.{length-map-range_with_len}
use Rattle.std.proofs.lemmas.Map.{length-set_value}
use Rattle.std.proofs.lemmas.Nat.{xor_lt}
use Rattle.std.proofs.lemmas.Nat.Bits.{bit_at-lt, bit_at-pow_other, bit_at_xor}
use Rattle.std.proofs.lemmas.Option.{slice_get_within}
use Rattle.asm_formats.specs.Items.{FileHead, Home, Homes, Key, chunk_item, is_home, is_homes, is_item}
use Rattle.asm_formats.specs.Regions.{reserved_units}
use Rattle.asm_formats.specs.Sets.{has_bit}
use Rattle.asm_formats.specs.Status.{Entry as StatusEntry}
use Rattle.asm_placement.specs.Layout.{units_of}
use Rattle.asm_placement.specs.Moves.{without_bit}
use Rattle.asm_base.specs.Records.{DirectoryRecord}
use Rattle.asm_base.proofs.Exact.{some_is}
use Rattle.plan_records.specs.allocator.UnitMaps.{UnitMap, unused}
use Rattle.plan_records.specs.file_directory.Files.{head_at}
use Rattle.plan_records.specs.extent_map.Extents.{Chunked, IsExtentTable, absent_homes, chunk_at, chunk_or_blank, has_home, record_of_chunk, with_extent}
use Rattle.asm_base.specs.Chunks.{Chunk, chunk_cmp}
use Rattle.plan_records.proofs.extent_map.ChunkEnds.{replaces_extents}
use Rattle.plan_records.proofs.extent_map.FileEnds.{item_at}
use Rattle.plan_records.proofs.extent_map.Laws.{chunk_total, same_chunk}
use Rattle.plan_records.proofs.extent_map.Lookups.{put_here, put_other, put_same, set_here, set_other, there_as_long}
use Rattle.plan_records.proofs.extent_map.Numbering.{found_self, the_chunk}
use Rattle.plan_records.specs.staleness_directory.Marks as stale
use Rattle.plan_records.specs.staleness_directory.Marks.{Marked, marks_at, with_marks}
use Rattle.plan_records.proofs.staleness_directory.Laws as stale_laws
use Rattle.plan_records.specs.catalog_tables.Changing.{IsAfter}
use Rattle.catalog.specs.ExtentPlans.{MayMove, homes_moved, is_copy_of, marks_or_none, with_move}
use Rattle.plan_records.specs.catalog_tables.Faults.{IsCatalog}
use Rattle.plan_records.specs.catalog_tables.Placing.{HasUnits, after_homes, disk_units, home_taken, homes_of, unused_maps}
use Rattle.catalog.specs.Plans.{IsPlan}
use Rattle.plan_records.specs.catalog_tables.Rules.{are_marks_of, are_on_disks, are_within, are_within_head, has_copies, is_mark_of, marks_of, homes_at}
use Rattle.plan_records.specs.catalog_tables.Tables.{AreTables, Catalogued, Tables}
use Rattle.catalog.proofs.EditLaws.{IsEdited, IsRightChunk, after_two, changed, chunk_right, due_by, edited_plan, extent_in, homes_set, marks_set}
use Rattle.plan_records.proofs.catalog_tables.NewRecords.{chunk_there, marks_there, old_room, two_old_room}
use Rattle.plan_records.proofs.catalog_tables.EntryLaws.{both, three_true}
use Rattle.plan_records.proofs.catalog_tables.HomeUnits.{chunks_are_homes, takes}
use Rattle.catalog.proofs.MarkPlans.{Stands, marks_small, set_allowed, stands, zip_at}
use Rattle.catalog.proofs.PlanLaws.{after_put}
use Rattle.catalog.proofs.UnitEdits.{as_many, moved, units_edited}

-- ---- marks without one

mark_less : (set n k : ℕ) → has_bit (without_bit set n) k ≡ true → has_bit set k ≡ true
unfolding has_bit without_bit
mark_less set n k = by (eqb (bit_at set n) 1) refl
  where
    by : (b : Bool) → eqb (bit_at set n) 1 ≡ b → eqb (bit_at (cond b (bit_xor set (2 ^ n)) set) k) 1 ≡ true → eqb (bit_at set k) 1 ≡ true
    by true was e = elim (cases_eq k n) [
      | inl same ↦ ap (λ (m : ℕ). eqb (bit_at set m) 1) same ∙ was
      | inr other ↦ eq-eqb (bit_at set k) 1 (omega (arith, eqb-true (bit_at (bit_xor set (2 ^ n)) k) 1 e, bit_at_xor set (2 ^ n) k, bit_at-pow_other n k other, bit_at-lt set k))
    ]
    by false was e = e

without_few : (set n : ℕ) → set < 8 → n < 3 → without_bit set n < 8
unfolding without_bit
without_few set n few three = by (has_bit set n) where
  power : (m : ℕ) → m < 3 → 2 ^ m < 2 ^ 3
  power zero lt = omega arith
  power (suc zero) lt = omega arith
  power (suc (suc zero)) lt = omega arith
  power (suc (suc (suc m))) lt = absurd (omega (arith, lt))

  by : (b : Bool) → cond b (bit_xor set (2 ^ n)) set < 8
  by true = xor_lt 3 set (2 ^ n) few (power n three)
  by false = few

pub without_none : (set n : ℕ) → has_bit set n ≡ false → without_bit set n ≡ set
unfolding without_bit
without_none set n none = rw none refl

-- ---- homes with another one

or_true : (b : Bool) → (b || true) ≡ true
or_true true = refl
or_true false = refl

-- a test of each copy number, which holds at the copy that has a home now and at the others as before
by_copy : (P : ℕ → Option Home → Bool) (homes : Homes) (copy k : ℕ) (h : Home) → copy < length homes → P copy (Some h) ≡ true → P k (get_or homes k None) ≡ true → P k (get_or (slice_set homes copy (Some h)) k None) ≡ true
by_copy P homes copy k h lt here old = elim (cases_eq k copy) [
  | inl same ↦ ap (λ (j : ℕ). P j (get_or (slice_set homes copy (Some h)) j None)) same ∙ ap (P copy) (get_or-set_same homes copy (Some h) None lt) ∙ here
  | inr other ↦ ap (P k) (get_or-set_other homes copy k (Some h) None other) ∙ old
]

module _ (homes : Homes) (copy : ℕ) (h : Home) (three : length homes ≡ 3) (lt : copy < 3) where
  abbrev moved_homes : Homes
  moved_homes = slice_set homes copy (Some h)

  copy_inside : copy < length homes
  copy_inside = omega (arith, three, lt)

  three_hold : (P : ℕ → Option Home → Bool) → P copy (Some h) ≡ true → (P 0 (get_or homes 0 None) && (P 1 (get_or homes 1 None) && P 2 (get_or homes 2 None))) ≡ true
      → (P 0 (get_or moved_homes 0 None) && (P 1 (get_or moved_homes 1 None) && P 2 (get_or moved_homes 2 None))) ≡ true
  three_hold P here old =
      let a = and_parts (P 0 (get_or homes 0 None)) (P 1 (get_or homes 1 None) && P 2 (get_or homes 2 None)) old in
      let b = and_parts (P 1 (get_or homes 1 None)) (P 2 (get_or homes 2 None)) a.1 in
      three_true (P 0 (get_or moved_homes 0 None)) (P 1 (get_or moved_homes 1 None)) (P 2 (get_or moved_homes 2 None)) (by_copy P homes copy 0 h copy_inside here a.0) (by_copy P homes copy 1 h copy_inside here b.0) (by_copy P homes copy 2 h copy_inside here b.1)

  moved_within : (copies : ℕ) → ltb copy copies ≡ true → are_within copies homes ≡ true → are_within copies moved_homes ≡ true
  moved_within copies few old = three_hold (λ k o. ltb k copies || not (is_some o)) (ap (λ (b : Bool). b || false) few) old

  moved_copies : (copies : ℕ) → has_copies copies (Some homes) ≡ true → has_copies copies (Some moved_homes) ≡ true
  moved_copies copies old = three_hold (λ k o. not (ltb k copies) || is_some o) (or_true (not (ltb copy copies))) old

  moved_marks : (marks : ℕ) → are_marks_of (marks, homes) ≡ true → are_marks_of (marks, moved_homes) ≡ true
  moved_marks marks old = three_hold (λ k o. not (has_bit marks k) || is_some o) (or_true (not (has_bit marks copy))) old

  pub moved_home : has_home moved_homes ≡ true
  moved_home = by copy lt refl where
    at_copy : is_some (get_or moved_homes copy None) ≡ true
    at_copy = ap is_some (get_or-set_same homes copy (Some h) None copy_inside)

    by : (j : ℕ) → j < 3 → copy ≡ j → has_home moved_homes ≡ true
    by zero less e = ap (λ (b : Bool). b || (is_some (get_or moved_homes 1 None) || is_some (get_or moved_homes 2 None))) (ap (λ (n : ℕ). is_some (get_or moved_homes n None)) (sym e) ∙ at_copy)
    by (suc zero) less e = ap (λ (b : Bool). is_some (get_or moved_homes 0 None) || (b || is_some (get_or moved_homes 2 None))) (ap (λ (n : ℕ). is_some (get_or moved_homes n None)) (sym e) ∙ at_copy) ∙ or_true (is_some (get_or moved_homes 0 None))
    by (suc (suc zero)) less e =
        ap (λ (b : Bool). is_some (get_or moved_homes 0 None) || (is_some (get_or moved_homes 1 None) || b)) (ap (λ (n : ℕ). is_some (get_or moved_homes n None)) (sym e) ∙ at_copy)
        ∙ ap (λ (b : Bool). is_some (get_or moved_homes 0 None) || b) (or_true (is_some (get_or moved_homes 1 None))) ∙ or_true (is_some (get_or moved_homes 0 None))
    by (suc (suc (suc j))) less e = absurd (omega (arith, less))

all_set : {A : Type 0} (test : A → Bool) (xs : List A) (p : ℕ) (x : A) → test x ≡ true → list_all test xs ≡ true → list_all test (slice_set xs p x) ≡ true
all_set test [] p x ok all = refl
all_set test (y ∷ xs) zero x ok all = rw ok (and_parts (test y) (list_all test xs) all).1
all_set test (y ∷ xs) (suc p) x ok all = let a = and_parts (test y) (list_all test xs) all in rw a.0 (all_set test xs p x ok a.1)

pub all_at : {A : Type 0} (test : A → Bool) (xs : List A) (p : ℕ) (d : A) → list_all test xs ≡ true → p < length xs → test (get_or xs p d) ≡ true
all_at test [] p d all lt = absurd (omega (arith, lt))
all_at test (y ∷ xs) zero d all lt = (and_parts (test y) (list_all test xs) all).0
all_at test (y ∷ xs) (suc p) d all lt = all_at test xs p d (and_parts (test y) (list_all test xs) all).1 (omega (arith, lt))

moved_allowed : (homes : Homes) (copy : ℕ) (h : Home) → is_homes homes ≡ true → is_home (Some h) ≡ true → is_homes (slice_set homes copy (Some h)) ≡ true
moved_allowed homes copy h ok one =
    let a = and_parts (eqb (length homes) 3) (list_all is_home homes) ok in
    both (eqb (length (slice_set homes copy (Some h))) 3) (list_all is_home (slice_set homes copy (Some h)))
    (eq-eqb (length (slice_set homes copy (Some h))) 3 (length-set homes copy (Some h) ∙ eqb-true (length homes) 3 a.0)) (all_set is_home homes copy (Some h) one a.1)

within_head : (o : Option FileHead) (w : List Homes) (p copy : ℕ) (h : Home) → length (get_or w p []) ≡ 3 → copy < 3 → p < length w → is_copy_of o copy ≡ true → are_within_head o w ≡ true
    → are_within_head o (slice_set w p (slice_set (get_or w p []) copy (Some h))) ≡ true
within_head None w p copy h three lt inside few ok = refl
within_head (Some head) w p copy h three lt inside few ok =
    all_set (are_within head.copies) w p (slice_set (get_or w p []) copy (Some h)) (moved_within (get_or w p []) copy h three lt head.copies few (all_at (are_within head.copies) w p [] ok inside)) ok

zip_both : (m : List ℕ) (w : List Homes) (p v : ℕ) (hs : Homes) → are_marks_of (v, hs) ≡ true → list_all are_marks_of (zip m w) ≡ true → list_all are_marks_of (zip (slice_set m p v) (slice_set w p hs)) ≡ true
zip_both [] w p v hs right all = refl
zip_both (b ∷ m) [] zero v hs right all = refl
zip_both (b ∷ m) [] (suc p) v hs right all = refl
zip_both (b ∷ m) (h ∷ w) zero v hs right all = both (are_marks_of (v, hs)) (list_all are_marks_of (zip m w)) right (and_parts (are_marks_of (b, h)) (list_all are_marks_of (zip m w)) all).1
zip_both (b ∷ m) (h ∷ w) (suc p) v hs right all =
    let a = and_parts (are_marks_of (b, h)) (list_all are_marks_of (zip m w)) all in
    both (are_marks_of (b, h)) (list_all are_marks_of (zip (slice_set m p v) (slice_set w p hs))) a.0 (zip_both m w p v hs right a.1)

-- marks without one are those of copies that the marks were of
less_marks : (set n : ℕ) (homes : Homes) → are_marks_of (set, homes) ≡ true → are_marks_of (without_bit set n, homes) ≡ true
less_marks set n homes ok =
    let a = and_parts (is_mark_of set homes 0) (is_mark_of set homes 1 && is_mark_of set homes 2) ok in
    let b = and_parts (is_mark_of set homes 1) (is_mark_of set homes 2) a.1 in
    three_true (is_mark_of (without_bit set n) homes 0) (is_mark_of (without_bit set n) homes 1) (is_mark_of (without_bit set n) homes 2) (one 0 a.0) (one 1 b.0) (one 2 b.1)
  where
    implied : (a b c : Bool) → (a ≡ true → b ≡ true) → (not b || c) ≡ true → (not a || c) ≡ true
    implied false b c f e = refl
    implied true true c f e = e
    implied true false c f e = absurd (true≢false (sym (f refl)))

    one : (k : ℕ) → is_mark_of set homes k ≡ true → is_mark_of (without_bit set n) homes k ≡ true
    one k e = implied (has_bit (without_bit set n) k) (has_bit set k) (is_some (get_or homes k None)) (mark_less set n k) e

-- ---- maps of all disk numbers

pub units_long : (c : Catalogued) → IsCatalog c → length c.units ≡ 64
units_long c is = as_many (unused_maps c.shape is.entries) c.units _ (sym (chunks_are_homes c.shape.step c.tables.extents (unused_maps c.shape is.entries)) ∙ is.units)
    ∙ length-map-range_with_len (λ (d : ℕ). unused (reserved_units c.shape) (disk_units is.entries d)) 0 64

-- a home whose units are free is one of the formats
pub home_fits : (c : Catalogued) (h : Home) (n : ℕ) → IsCatalog c → h.unit < 2 ^ 32 → is_some (home_taken c.units h n) ≡ true → is_home (Some h) ≡ true
home_fits c h n is unit free = by (home_taken c.units h n) refl free where
  by : (o : Option (List UnitMap)) → home_taken c.units h n ≡ o → is_some o ≡ true → is_home (Some h) ≡ true
  by None e f = absurd cc
  by (Some z) e f =
      let t = takes c.units z h n e in
      let disk = slice_get_within c.units h.disk t.map_before t.there in
      rw (lt-ltb h.disk 255 (omega (arith, disk, units_long c is)), lt-ltb h.unit (2 ^ 32) unit) refl

pub homes_allowed : (f n : ℕ) (xs : List Homes) → is_item (chunk_item f n xs) ≡ true → list_all is_homes xs ≡ true
unfolding is_item
homes_allowed f n xs ok =
    let a = and_parts (ltb f (2 ^ 32)) _ ok in
    let b = and_parts (ltb (n + 1) (2 ^ 32)) _ a.1 in
    (and_parts (eqb (length xs) 256) (list_all is_homes xs) b.1).1

-- ---- the plan

module _ (c : Catalogued) (is : IsCatalog c) (f i copy : ℕ) (h : Home) (may : MayMove c f i copy h) (unit : h.unit < 2 ^ 32) (w : List Homes) (m : List ℕ) (s : Stands c.tables (f, i / 256) w m) where
  abbrev pub k : Chunk
  k = (f, i / 256)

  abbrev pub p : ℕ
  p = i % 256

  abbrev pub hs : Homes
  hs = get_or w (i % 256) []

  abbrev pub new_homes : Homes
  new_homes = slice_set hs copy (Some h)

  abbrev pub new : List Homes
  new = slice_set w p new_homes

  abbrev pub mark : ℕ
  mark = without_bit (get_or m (i % 256) 0) copy

  abbrev pub new_marks : List ℕ
  new_marks = slice_set m p mark

  abbrev pub xs : List Chunked
  xs = set_value (is_at (chunk_cmp k)) c.tables.extents new

  abbrev pub ms : List Marked
  ms = with_marks c.tables.stale k new_marks

  at_homes : homes_at c.tables f i ≡ hs
  at_homes = ap (λ (o : Option (List Homes)). get_or (unwrap_or o []) (i % 256) []) s.homes

  at_marks : marks_of c.tables f i ≡ get_or m (i % 256) 0
  at_marks = ap (λ (o : Option (List ℕ)). get_or (unwrap_or o []) (i % 256) 0) s.marks

  place : p < length w
  place = omega (arith, s.long)

  old_right : IsRightChunk c.tables c.tables.stale k w
  old_right = chunk_right c.shape c.tables k w is.rules s.homes

  hs_allowed : is_homes hs ≡ true
  hs_allowed = all_at is_homes w p [] (homes_allowed f (i / 256) w (item_at c.tables.extents k w is.rules.tables.extents.0.1 s.homes)) place

  three : length hs ≡ 3
  three = eqb-true (length hs) 3 (and_parts (eqb (length hs) 3) (list_all is_home hs) hs_allowed).0

  home_allowed : is_home (Some h) ≡ true
  home_allowed = elim may.free [
    | inl same ↦ ap is_home (sym same ∙ ap (λ (x : Homes). get_or x copy None) at_homes) ∙ all_at is_home hs copy None (and_parts (eqb (length hs) 3) (list_all is_home hs) hs_allowed).1 (omega (arith, three, may.three))
    | inr free ↦ home_fits c h (units_of c.shape.step i) is unit free
  ]

  pub here : chunk_at xs k ≡ Some new
  here = set_here chunk_cmp same_chunk k new c.tables.extents (ap is_some s.homes)

  pub others : (q : Chunk) → is_at (chunk_cmp q) k ≡ false → chunk_at xs q ≡ chunk_at c.tables.extents q
  others q miss = set_other chunk_cmp same_chunk k new q miss c.tables.extents

  pub marks_here : marks_at ms k ≡ Some new_marks
  marks_here = put_here chunk_cmp same_chunk k new_marks (found_self f (i / 256)) c.tables.stale

  pub marks_others : (q : Chunk) → is_at (chunk_cmp q) k ≡ false → marks_at ms q ≡ marks_at c.tables.stale q
  marks_others q miss = put_other chunk_cmp same_chunk k new_marks q miss c.tables.stale

  as_extent : with_extent c.tables.extents f i new_homes ≡ xs
  as_extent = ap (λ (o : Option (List Homes)). cond (is_some o) (set_value (is_at (chunk_cmp k)) c.tables.extents (slice_set (unwrap_or o []) (i % 256) new_homes)) (insert_entry chunk_cmp c.tables.extents (f, i / 256) (slice_set (replicate 256 absent_homes) (i % 256) new_homes))) s.homes

  extents_table : IsExtentTable xs
  extents_table = subst IsExtentTable as_extent (replaces_extents c.tables.extents f i new_homes is.rules.tables.extents may.there
      (both (is_homes new_homes) (has_home new_homes) (moved_allowed hs copy h hs_allowed home_allowed) (moved_home hs copy h three may.three)))

  mark_few : mark < 8
  mark_few = without_few (get_or m (i % 256) 0) copy (marks_small m (i % 256) s.are.small) may.three

  mark_right : are_marks_of (mark, new_homes) ≡ true
  mark_right = moved_marks hs copy h three may.three mark (less_marks (get_or m (i % 256) 0) copy hs (zip_at m w (i % 256) (old_right.stale m s.marks) (omega (arith, s.are.size)) place))

  chunk_is : (x : List Homes) → chunk_at xs k ≡ Some x → IsRightChunk c.tables ms k x
  chunk_is x there = subst (λ (y : List Homes). IsRightChunk c.tables ms k y) (some_is new x (sym here ∙ there)) (record {
    marked = ap is_some marks_here;
    owned = old_right.owned;
    copies = within_head (head_at c.tables.files f) w p copy h three may.three place may.below old_right.copies;
    apart = all_set are_on_disks w p new_homes (ap (λ (x : Homes). are_on_disks (slice_set x copy (Some h))) (sym at_homes) ∙ may.apart) old_right.apart;
    stale = λ n has. subst (λ (y : List ℕ). list_all are_marks_of (zip y new) ≡ true) (some_is new_marks n (sym marks_here ∙ has)) (zip_both m w p mark new_homes mark_right (old_right.stale m s.marks));
  })

  keeps : (copies q : ℕ) → q < 256 → has_copies copies (extent_in (chunk_at c.tables.extents k) q) ≡ true → has_copies copies (extent_in (chunk_at xs k) q) ≡ true
  keeps copies q small old = ap (λ (o : Option (List Homes)). has_copies copies (extent_in o q)) here ∙ elim (cases_eq q p) [
    | inl same ↦
        let its : get_or new q [] ≡ new_homes = ap (λ (j : ℕ). get_or new j []) same ∙ get_or-set_same w p new_homes [] place in
        let was : has_copies copies (extent_in (Some w) q) ≡ true = ap (λ (o : Option (List Homes)). has_copies copies (extent_in o q)) (sym s.homes) ∙ old in
        let before : has_copies copies (Some hs) ≡ true = ap (λ (j : ℕ). has_copies copies (Some (get_or w j []))) (sym same) ∙ had copies (get_or w q []) was in
        ap (λ (x : Homes). has_copies copies (cond (has_home x) (Some x) None)) its ∙ ap (λ (b : Bool). has_copies copies (cond b (Some new_homes) None)) (moved_home hs copy h three may.three) ∙ moved_copies hs copy h three may.three copies before
    | inr other ↦
        ap (λ (x : Homes). has_copies copies (cond (has_home x) (Some x) None)) (get_or-set_other w p q new_homes [] other) ∙ ap (λ (o : Option (List Homes)). has_copies copies (extent_in o q)) (sym s.homes) ∙ old
  ] where
    had : (copies : ℕ) (x : Homes) → has_copies copies (cond (has_home x) (Some x) None) ≡ true → has_copies copies (Some x) ≡ true
    had copies x e = by (has_home x) e where
      by : (b : Bool) → has_copies copies (cond b (Some x) None) ≡ true → has_copies copies (Some x) ≡ true
      by true e = e
      by false e = absurd cc

  edit : IsEdited c.shape c.tables k xs ms
  edit = record {
    extents = extents_table;
    stale = stale_laws.put_keeps_table c.tables.stale k new_marks (set_allowed f (i / 256) m p mark mark_few s.item) is.rules.tables.stale;
    homes = others;
    marks = marks_others;
    right = chunk_is;
    chunked = λ n has. ap is_some here;
    due = λ g head there all. due_by c.shape c.tables k xs ms others keeps g head all;
    room = omega (arith, long, marks_long, is.rules.room);
  } where
    long : length xs ≡ length c.tables.extents
    long = length-set_value (is_at (chunk_cmp k)) c.tables.extents new

    marks_long : length ms ≡ length c.tables.stale
    marks_long = there_as_long chunk_cmp same_chunk chunk_total k new_marks m c.tables.stale is.rules.tables.stale.0 s.marks

  units : (es : List StatusEntry) → HasUnits c.shape es c.tables c.units → (us : List UnitMap) × HasUnits c.shape es (changed c.tables xs ms) us
  units es has = units_edited c.shape.step (unused_maps c.shape es) c.units k c.tables.extents xs is.rules.tables.extents.0.0 extents_table.0.0 others has w new s.homes here follows where
    base : ℕ
    base = i / 256 * 256

    index : i / 256 * 256 + i % 256 ≡ i
    index = omega arith

    by_run : (o : Option (List UnitMap)) → home_taken c.units h (units_of c.shape.step i) ≡ o → is_some o ≡ true → (z : List UnitMap) × (home_taken c.units h (units_of c.shape.step (i / 256 * 256 + i % 256)) ≡ Some z)
    by_run None e f = absurd cc
    by_run (Some z) e f = (z, ap (λ (n : ℕ). home_taken c.units h (units_of c.shape.step n)) index ∙ e)

    follows : (b : List UnitMap) → after_homes b (homes_of c.shape.step (k, w)) ≡ Some c.units → (y : List UnitMap) × (after_homes b (homes_of c.shape.step (k, new)) ≡ Some y)
    follows b e = elim may.free [
      | inl same ↦
          let its : Some h ≡ get_or hs copy None = sym same ∙ ap (λ (x : Homes). get_or x copy None) at_homes in
          let as_before : new ≡ w = ap (λ (o : Option Home). slice_set w p (slice_set hs copy o)) its ∙ ap (λ (x : Homes). slice_set w p x) (set-get_or hs copy None) ∙ set-get_or w p [] in
          (c.units, ap (λ (y : List Homes). after_homes b (homes_of c.shape.step (k, y))) as_before ∙ e)
      | inr free ↦
          let z = by_run (home_taken c.units h (units_of c.shape.step i)) refl free in
          moved c.shape.step f (i / 256 * 256) w p copy h b c.units z.0 place (omega (arith, three, may.three)) e z.1
    ]

  abbrev chunk_entry : DirectoryRecord
  chunk_entry = record_of_chunk (k, new)

  abbrev marks_entry : DirectoryRecord
  marks_entry = stale.record_of_marks (k, new_marks)

  two_records : AreTables (changed c.tables xs ms) → IsAfter c.tables (chunk_entry ∷ marks_entry ∷ []) [] (changed c.tables xs ms)
  two_records are =
      let mid : Tables = record c.tables { extents = xs } in
      after_two c.tables mid (changed c.tables xs ms) chunk_entry marks_entry are (homes_set c.tables f (i / 256) xs (Some new) here others) (marks_set mid f (i / 256) ms (Some new_marks) marks_here marks_others)

  pub two_planned : IsPlan c (chunk_entry ∷ marks_entry ∷ []) [] (changed c.tables xs ms)
  two_planned = edited_plan c k xs ms (chunk_entry ∷ marks_entry ∷ []) [] is edit two_records units (omega arith) refl (two_old_room c chunk_entry marks_entry is (chunk_there c.tables f (i / 256) w s.homes) (marks_there c.tables k m s.marks))

  -- where the copy has no mark, the marks stay
  same_marks : has_bit (get_or m (i % 256) 0) copy ≡ false → ms ≡ c.tables.stale
  same_marks none =
      let as_before : new_marks ≡ m = ap (λ (v : ℕ). slice_set m p v) (without_none (get_or m (i % 256) 0) copy none) ∙ set-get_or m p 0 in
      ap (λ (y : List ℕ). with_marks c.tables.stale k y) as_before ∙ put_same chunk_cmp same_chunk chunk_total k m c.tables.stale is.rules.tables.stale.0 s.marks

  one_record : ms ≡ c.tables.stale → AreTables (changed c.tables xs ms) → IsAfter c.tables (chunk_entry ∷ []) [] (changed c.tables xs ms)
  one_record same are =
      subst (λ (y : List Marked). IsAfter c.tables (chunk_entry ∷ []) [] (changed c.tables xs y)) (sym same)
      (after_put c.tables (changed c.tables xs c.tables.stale) chunk_entry (subst (λ (y : List Marked). AreTables (changed c.tables xs y)) same are) (homes_set c.tables f (i / 256) xs (Some new) here others))

  pub one_planned : has_bit (get_or m (i % 256) 0) copy ≡ false → IsPlan c (chunk_entry ∷ []) [] (changed c.tables xs ms)
  one_planned none = edited_plan c k xs ms (chunk_entry ∷ []) [] is edit (one_record (same_marks none)) units (omega arith) refl (old_room c chunk_entry is (chunk_there c.tables f (i / 256) w s.homes))

-- ---- as the code says it

module _ (c : Catalogued) (is : IsCatalog c) (f i copy : ℕ) (h : Home) (may : MayMove c f i copy h) (unit : h.unit < 2 ^ 32) where
  abbrev old_chunk : List Homes
  old_chunk = chunk_or_blank c.tables.extents (f, i / 256)

  -- the record of the chunk, and that of its marks
  abbrev pub moved_entry : DirectoryRecord
  moved_entry = record_of_chunk ((f, i / 256), slice_set old_chunk (i % 256) (slice_set (get_or old_chunk (i % 256) []) copy (Some h)))

  abbrev pub unmarked_entry : DirectoryRecord
  unmarked_entry = stale.record_of_marks ((f, i / 256), slice_set (marks_or_none c.tables.stale (f, i / 256)) (i % 256) (without_bit (marks_of c.tables f i) copy))

  pub it_stands : (w : List Homes) × (m : List ℕ) × Stands c.tables (f, i / 256) w m
  it_stands = let x = the_chunk (chunk_at c.tables.extents (f, i / 256)) (i % 256) may.there in stands c (f, i / 256) is (ap is_some x.1)

  module _ (w : List Homes) (m : List ℕ) (s : Stands c.tables (f, i / 256) w m) where
    same_chunk_entry : moved_entry ≡ chunk_entry c is f i copy h may unit w m s
    same_chunk_entry = ap (λ (o : Option (List Homes)). record_of_chunk ((f, i / 256), slice_set (unwrap_or o (replicate 256 absent_homes)) (i % 256) (slice_set (get_or (unwrap_or o (replicate 256 absent_homes)) (i % 256) []) copy (Some h)))) s.homes

    same_marks_entry : unmarked_entry ≡ marks_entry c is f i copy h may unit w m s
    same_marks_entry =
        ap (λ (o : Option (List ℕ)). stale.record_of_marks ((f, i / 256), slice_set (unwrap_or o (replicate 256 0)) (i % 256) (without_bit (get_or (unwrap_or o []) (i % 256) 0) copy))) s.marks

    pub same_tables : changed c.tables (xs c is f i copy h may unit w m s) (ms c is f i copy h may unit w m s) ≡ with_move c.tables f i copy h
    same_tables =
        ap (λ (y : List Chunked). changed c.tables y (ms c is f i copy h may unit w m s)) (sym (as_extent c is f i copy h may unit w m s) ∙ ap (λ (x : Homes). with_extent c.tables.extents f i (slice_set x copy (Some h))) (sym (at_homes c is f i copy h may unit w m s)))
        ∙ ap (λ (y : List Marked). changed c.tables (with_extent c.tables.extents f i (homes_moved c.tables f i copy h)) y)
        (sym (ap (λ (o : Option (List ℕ)). with_marks c.tables.stale (f, i / 256) (slice_set (unwrap_or o (replicate 256 0)) (i % 256) (without_bit (get_or (unwrap_or o []) (i % 256) 0) copy))) s.marks))

  pub move_planned : (put : List DirectoryRecord) (gone : List Key) → put ≡ moved_entry ∷ unmarked_entry ∷ [] → gone ≡ [] → IsPlan c put gone (with_move c.tables f i copy h)
  move_planned put gone e g =
      let s = it_stands in
      rw (e, g) (subst (λ (u : Tables). IsPlan c (moved_entry ∷ unmarked_entry ∷ []) [] u) (same_tables s.0 s.1 s.2)
      (subst (λ (x : DirectoryRecord). IsPlan c (x ∷ unmarked_entry ∷ []) [] (changed c.tables (xs c is f i copy h may unit s.0 s.1 s.2) (ms c is f i copy h may unit s.0 s.1 s.2))) (sym (same_chunk_entry s.0 s.1 s.2))
      (subst (λ (x : DirectoryRecord). IsPlan c (chunk_entry c is f i copy h may unit s.0 s.1 s.2 ∷ x ∷ []) [] (changed c.tables (xs c is f i copy h may unit s.0 s.1 s.2) (ms c is f i copy h may unit s.0 s.1 s.2))) (sym (same_marks_entry s.0 s.1 s.2))
      (two_planned c is f i copy h may unit s.0 s.1 s.2))))

  pub unmarked_planned : has_bit (marks_of c.tables f i) copy ≡ false → (put : List DirectoryRecord) (gone : List Key) → put ≡ moved_entry ∷ [] → gone ≡ [] → IsPlan c put gone (with_move c.tables f i copy h)
  unmarked_planned none put gone e g =
      let s = it_stands in
      rw (e, g) (subst (λ (u : Tables). IsPlan c (moved_entry ∷ []) [] u) (same_tables s.0 s.1 s.2)
      (subst (λ (x : DirectoryRecord). IsPlan c (x ∷ []) [] (changed c.tables (xs c is f i copy h may unit s.0 s.1 s.2) (ms c is f i copy h may unit s.0 s.1 s.2))) (sym (same_chunk_entry s.0 s.1 s.2))
      (one_planned c is f i copy h may unit s.0 s.1 s.2 (ap (λ (n : ℕ). has_bit n copy) (sym (at_marks c is f i copy h may unit s.0 s.1 s.2)) ∙ none))))
