-- A copy that is written anew in place, as a plan of its marks and as a move to its own home.
use Rattle.std.proofs.Common.{◌≡◌, ◌<◌, ◌/◌, ◌%◌, ◌^◌, ℕ, zero, suc, Bool, true, false, cond, eqb, ltb, List, [], ◌∷◌, length, map, get_or, replicate, Option, Some, None, refl, sym, ap, subst, ◌∙◌, arith, inl, inr}
use Rattle.std.specs.Prelude.{◌&&◌, ◌||◌, not, slice_set}
use Rattle.std.specs.List.{list_all, range_with_len}
use Rattle.std.specs.Option.{is_some, unwrap_or}
use Rattle.std.specs.BTreeMap.{insert_entry, is_at}
use Rattle.std.specs.Map.{set_value}
use Rattle.std.proofs.lemmas.Bool.{and_parts, cases_lt, eqb-true, ltb-true}
use Rattle.std.proofs.lemmas.List.{get_or_past, set-get_or}
use Rattle.std.proofs.lemmas.Map.Steps.{set_value_same}
use Rattle.std.proofs.lemmas.Option.{none-some}
use Rattle.asm_formats.specs.Among.{IsAmong}
use Rattle.asm_formats.specs.Items.{FileHead, Home, Homes, Item, chunk_item, is_home, is_homes}
use Rattle.asm_formats.specs.Sets.{has_bit}
use Rattle.catalog.specs.asm_placement.Moves.{moved_item, with_current, with_home, without_bit}
use Rattle.catalog.proofs.asm_base.Exact.{some_is}
use Rattle.catalog.specs.file_directory.Files.{head_at}
use Rattle.catalog.specs.extent_map.Extents.{Chunked, absent_homes, chunk_at, has_home, with_extent}
use Rattle.catalog.specs.asm_base.Chunks.{Chunk, chunk_cmp}
use Rattle.catalog.proofs.extent_map.FileEnds.{item_at}
use Rattle.catalog.proofs.extent_map.Laws.{chunk_total}
use Rattle.catalog.specs.ExtentPlans.{ClearsItems, MayMark, MayMove, StaysInPlace, home_at, homes_moved, is_copy_of, marks_changed, with_marks_at, with_marks_changed, with_move}
use Rattle.catalog.specs.catalog_tables.Faults.{IsCatalog}
use Rattle.catalog.specs.catalog_tables.Items.{AreItemsOf}
use Rattle.catalog.specs.catalog_tables.Rules.{are_on_disks, are_within, are_within_head, is_home_within, marks_of, homes_at}
use Rattle.catalog.specs.catalog_tables.Tables.{Catalogued, Tables}
use Rattle.catalog.proofs.EditLaws.{chunk_right}
use Rattle.catalog.proofs.catalog_tables.EntryLaws.{either}
use Rattle.catalog_laws.proofs.ItemLaws.{chunk_entries}
use Rattle.catalog.proofs.MarkPlans.{Stands, marks_small, some_of, stands}
use Rattle.catalog_laws.proofs.MoveItems.{moves_items}
use Rattle.catalog.proofs.MovePlans.{all_at, homes_allowed, moved_home}
use Rattle.catalog.proofs.catalog_tables.PlacingLaws.{all_in}
use Rattle.catalog.proofs.catalog_tables.TableItems.{among_found, chunks_exact}

-- ---- marks without one

agrees : ℕ → ℕ → Bool
agrees copy old = eqb (without_bit old copy) (marks_changed old 0 (2 ^ copy))

all_agree : list_all (λ copy. list_all (agrees copy) (range_with_len 0 8)) (range_with_len 0 3) ≡ true
unfolding without_bit has_bit agrees
all_agree = refl

pub cleared : (old copy : ℕ) → old < 8 → copy < 3 → without_bit old copy ≡ marks_changed old 0 (2 ^ copy)
unfolding agrees
cleared old copy few lt =
    eqb-true (without_bit old copy) (marks_changed old 0 (2 ^ copy))
    (all_in (agrees copy) 0 8 (all_in (λ n. list_all (agrees n) (range_with_len 0 8)) 0 3 all_agree copy (omega arith) lt) old (omega arith) few)

-- ---- a copy that is there

-- its chunk stands, with this home of the copy
pub record IsThere (c : Catalogued) (f i copy : ℕ) (h : Home) : Type 0 where
  pub chunk : List Homes
  pub marks : List ℕ
  pub stands : Stands c.tables (f, i / 256) chunk marks
  pub own : get_or (get_or chunk (i % 256) []) copy None ≡ Some h
  pub allowed : is_homes (get_or chunk (i % 256) []) ≡ true
  pub three : length (get_or chunk (i % 256) []) ≡ 3
  pub low : copy < 3

pub is_there : (c : Catalogued) (f i copy : ℕ) (h : Home) → IsCatalog c → home_at c.tables f i copy ≡ Some h → IsThere c f i copy h
is_there c f i copy h is has = by (chunk_at c.tables.extents (f, i / 256)) refl where
  by : (o : Option (List Homes)) → chunk_at c.tables.extents (f, i / 256) ≡ o → IsThere c f i copy h
  by None e = absurd (none-some h (ap (λ (o : Option (List Homes)). get_or (get_or (unwrap_or o []) (i % 256) []) copy None) (sym e) ∙ has))
  by (Some x) e =
      let s = stands c (f, i / 256) is (ap is_some e) in
      let w : List Homes = s.0 in
      let its : Stands c.tables (f, i / 256) s.0 s.1 = s.2 in
      let ok : is_homes (get_or w (i % 256) []) ≡ true = all_at is_homes w (i % 256) [] (homes_allowed f (i / 256) w (item_at c.tables.extents (f, i / 256) w is.rules.tables.extents.0.1 its.homes)) (omega (arith, its.long)) in
      let three : length (get_or w (i % 256) []) ≡ 3 = eqb-true (length (get_or w (i % 256) [])) 3 (and_parts (eqb (length (get_or w (i % 256) [])) 3) (list_all is_home (get_or w (i % 256) [])) ok).0 in
      let own : get_or (get_or w (i % 256) []) copy None ≡ Some h = ap (λ (o : Option (List Homes)). get_or (get_or (unwrap_or o []) (i % 256) []) copy None) (sym its.homes) ∙ has in
      record { chunk = w; marks = s.1; stands = its; own = own; allowed = ok; three = three; low = inside (get_or w (i % 256) []) own three }
    where
      inside : (hs : Homes) → get_or hs copy None ≡ Some h → length hs ≡ 3 → copy < 3
      inside hs own three = elim (cases_lt copy 3) [
        | inl lt ↦ lt
        | inr past ↦ absurd (none-some h (sym (get_or_past hs copy None (omega (arith, three, past))) ∙ own))
      ]

module _ (c : Catalogued) (is : IsCatalog c) (f i copy : ℕ) (h : Home) (x : IsThere c f i copy h) where
  abbrev hs : Homes
  hs = get_or x.chunk (i % 256) []

  at_homes : homes_at c.tables f i ≡ hs
  at_homes = ap (λ (o : Option (List Homes)). get_or (unwrap_or o []) (i % 256) []) x.stands.homes

  at_marks : marks_of c.tables f i ≡ get_or x.marks (i % 256) 0
  at_marks = ap (λ (o : Option (List ℕ)). get_or (unwrap_or o []) (i % 256) 0) x.stands.marks

  place : i % 256 < length x.chunk
  place = omega (arith, x.stands.long)

  as_before : slice_set hs copy (Some h) ≡ hs
  as_before = ap (λ (o : Option Home). slice_set hs copy o) (sym x.own) ∙ set-get_or hs copy None

  same_homes : homes_moved c.tables f i copy h ≡ hs
  same_homes = ap (λ (y : Homes). slice_set y copy (Some h)) at_homes ∙ as_before

  -- ---- the tables of both plans

  same_extents : with_extent c.tables.extents f i (homes_moved c.tables f i copy h) ≡ c.tables.extents
  same_extents =
      ap (λ (y : Homes). with_extent c.tables.extents f i y) same_homes
      ∙ ap (λ (o : Option (List Homes)). cond (is_some o) (set_value (is_at (chunk_cmp (f, i / 256))) c.tables.extents (slice_set (unwrap_or o []) (i % 256) hs)) (insert_entry chunk_cmp c.tables.extents (f, i / 256) (slice_set (replicate 256 absent_homes) (i % 256) hs))) x.stands.homes
      ∙ ap (λ (y : List Homes). set_value (is_at (chunk_cmp (f, i / 256))) c.tables.extents y) (set-get_or x.chunk (i % 256) [])
      ∙ set_value_same (is_at (chunk_cmp (f, i / 256))) c.tables.extents x.chunk x.stands.homes

  same_mark : without_bit (marks_of c.tables f i) copy ≡ marks_changed (marks_of c.tables f i) 0 (2 ^ copy)
  same_mark = cleared (marks_of c.tables f i) copy (omega (arith, at_marks, marks_small x.marks (i % 256) x.stands.are.small)) x.low

  pub same_plan : with_move c.tables f i copy h ≡ with_marks_changed c.tables f i 0 (2 ^ copy)
  same_plan =
      ap (λ (y : List Chunked). record c.tables { extents = y; stale = with_marks_at c.tables.stale f i (without_bit (marks_of c.tables f i) copy) }) same_extents
      ∙ ap (λ (n : ℕ). record c.tables { stale = with_marks_at c.tables.stale f i n }) same_mark

  -- ---- it may be planned

  within : (o : Option FileHead) → are_within_head o x.chunk ≡ true → is_copy_of o copy ≡ true
  within None ok = refl
  within (Some head) ok = by copy x.low refl where
    all : are_within head.copies hs ≡ true
    all = all_at (are_within head.copies) x.chunk (i % 256) [] ok place

    low : (k : ℕ) → copy ≡ k → is_home_within head.copies hs k ≡ true → ltb copy head.copies ≡ true
    low k same e = or_false (ltb copy head.copies) (ap (λ (o : Option Home). ltb copy head.copies || not (is_some o)) (sym x.own) ∙ ap (λ (n : ℕ). is_home_within head.copies hs n) same ∙ e) where
      or_false : (b : Bool) → (b || false) ≡ true → b ≡ true
      or_false true e = refl
      or_false false e = e

    by : (k : ℕ) → k < 3 → copy ≡ k → ltb copy head.copies ≡ true
    by zero lt same = low 0 same (and_parts (is_home_within head.copies hs 0) (is_home_within head.copies hs 1 && is_home_within head.copies hs 2) all).0
    by (suc zero) lt same = low 1 same (and_parts (is_home_within head.copies hs 1) (is_home_within head.copies hs 2) (and_parts (is_home_within head.copies hs 0) (is_home_within head.copies hs 1 && is_home_within head.copies hs 2) all).1).0
    by (suc (suc zero)) lt same = low 2 same (and_parts (is_home_within head.copies hs 1) (is_home_within head.copies hs 2) (and_parts (is_home_within head.copies hs 0) (is_home_within head.copies hs 1 && is_home_within head.copies hs 2) all).1).1
    by (suc (suc (suc k))) lt same = absurd (omega (arith, lt))

  pub may_stay : MayMove c f i copy h
  may_stay =
      let right = chunk_right c.shape c.tables (f, i / 256) x.chunk is.rules x.stands.homes in
      record {
        there = ap has_home (at_homes ∙ sym as_before) ∙ moved_home hs copy h x.three x.low;
        three = x.low;
        below = within (head_at c.tables.files f) right.copies;
        apart = ap are_on_disks same_homes ∙ all_at are_on_disks x.chunk (i % 256) [] right.apart place;
        free = inl (ap (λ (y : Homes). get_or y copy None) at_homes ∙ x.own);
      }

  unit_fits : h.unit < 2 ^ 32
  unit_fits =
      let one : is_home (Some h) ≡ true = ap is_home (sym x.own) ∙ all_at is_home hs copy None (and_parts (eqb (length hs) 3) (list_all is_home hs) x.allowed).1 (omega (arith, x.three, x.low)) in
      ltb-true h.unit (2 ^ 32) (and_parts (ltb h.disk 255) (ltb h.unit (2 ^ 32)) one).1

  -- ---- the items

  module _ (items : List Item) (are : AreItemsOf c.tables items) where
    stays : (j : Item) → IsAmong items j → moved_item f i copy h j ≡ j
    stays (chunk_item g n homes) among = elim (either (eqb g f && eqb n (i / 256))) [
      | inl hit ↦
          let p = and_parts (eqb g f) (eqb n (i / 256)) hit in
          let found : chunk_at c.tables.extents (g, n) ≡ Some homes = among_found chunk_cmp chunk_total chunks_exact c.tables.extents ((g, n), homes) is.rules.tables.extents.0.0 ((chunk_entries c.tables items is.rules.tables are).back ((g, n), homes) among) in
          let same : (g, n) ≡ (f, i / 256) = ap (λ (k : ℕ). (k, n)) (eqb-true g f p.0) ∙ ap (λ (k : ℕ). (f, k)) (eqb-true n (i / 256) p.1) in
          let its : homes ≡ x.chunk = some_is homes x.chunk (sym found ∙ ap (λ (q : Chunk). chunk_at c.tables.extents q) same ∙ x.stands.homes) in
          rw hit (ap (λ (l : List Homes). chunk_item g n l)
          (ap (λ (l : List Homes). slice_set l (i % 256) (slice_set (get_or l (i % 256) []) copy (Some h))) its ∙ ap (λ (y : Homes). slice_set x.chunk (i % 256) y) as_before ∙ set-get_or x.chunk (i % 256) [] ∙ sym its))
      | inr miss ↦ rw miss refl
    ]
    stays _ among = refl

    all_stay : (xs : List Item) → ((j : Item) → IsAmong xs j → moved_item f i copy h j ≡ j) → map (moved_item f i copy h) xs ≡ xs
    all_stay [] each = refl
    all_stay (y ∷ xs) each = ap (λ (j : Item). j ∷ map (moved_item f i copy h) xs) (each y (inl refl)) ∙ ap (λ (l : List Item). y ∷ l) (all_stay xs (λ j among. each j (inr among)))

    in_place : with_home f i copy h items ≡ with_current f i copy items
    unfolding with_home
    in_place = ap (λ (l : List Item). with_current f i copy l) (all_stay items stays)

    pub current_items : AreItemsOf (with_marks_changed c.tables f i 0 (2 ^ copy)) (with_current f i copy items)
    current_items =
        subst (λ (u : Tables). AreItemsOf u (with_current f i copy items)) same_plan
        (subst (λ (l : List Item). AreItemsOf (with_move c.tables f i copy h) l) in_place (moves_items c f i copy h items is may_stay unit_fits are))

-- ---- the laws

pub stays_in_place : StaysInPlace
stays_in_place c f i copy h is has = same_plan c is f i copy h (is_there c f i copy h is has)

pub clears_items : ClearsItems
clears_items c f i copy items is there are =
    let h = some_of (home_at c.tables f i copy) there in
    current_items c is f i copy h.0 (is_there c f i copy h.0 is h.1) items are

-- what the plan of the marks asks
pub may_clear : (c : Catalogued) (f i copy : ℕ) (h : Home) → IsCatalog c → home_at c.tables f i copy ≡ Some h → MayMark c.tables f i 0 × (copy < 3)
unfolding has_bit
may_clear c f i copy h is has =
    let x = is_there c f i copy h is has in
    (record { chunk = ap is_some x.stands.homes; few = omega arith; copies = refl }, x.low)
