-- Plans by which a chunk gets extents.
use Rattle.std.proofs.Common.{◌≡◌, ◌≤◌, ◌<◌, ◌+◌, ◌-◌, ◌*◌, ◌^◌, ℕ, zero, suc, Bool, true, false, cond, eqb, ltb, List, [], ◌∷◌, ◌++◌, length, take, drop, get_or, replicate, append_assoc, Option, Some, None, refl, sym, ap, subst, ◌∙◌, arith, inl, inr, ◌⊎◌}
use Rattle.std.specs.Prelude.{◌&&◌, ◌||◌, not}
use Rattle.std.specs.List.{AllByRecursion, list_all, zip}
use Rattle.std.specs.Option.{is_some, unwrap_or}
use Rattle.std.specs.BTreeMap.{is_at}
use Rattle.std.proofs.lemmas.Bool.{and_parts, cases_lt, eq-eqb, eqb-true, lt-ltb, true≢false}
use Rattle.std.proofs.lemmas.List.{get_or_append_left, get_or-append_right, get_or-drop, get_or-take, length-append, length-drop, length-replicate, length-set, length-take, append-nil}
use Rattle.std.proofs.lemmas.List.Sums.{prefix_len_stops}
use Rattle.std.proofs.lemmas.Option.{none-some, slice_get_within}
use Rattle.std.proofs.Math.ListN.{take-append-drop}
use Rattle.asm_formats.specs.Items.{FileHead, Homes, Key, is_home, is_homes, is_item, marks_item}
use Rattle.asm_formats.specs.Sets.{has_bit}
use Rattle.asm_formats.specs.Status.{Entry as StatusEntry}
use Rattle.asm_placement.specs.Layout.{units_of}
use Rattle.asm_placement.specs.Placed.{Placed, placed_copies, placed_extents}
use Rattle.asm_base.specs.Records.{DirectoryRecord}
use Rattle.asm_base.proofs.Exact.{AreFitting, bind_some, some_is}
use Rattle.plan_records.specs.allocator.UnitMaps.{UnitMap, with_run}
use Rattle.plan_records.specs.file_directory.Files.{head_at}
use Rattle.plan_records.specs.extent_map.Extents.{Chunked, absent_homes, chunk_at, chunk_or_blank, count_in, has_home, is_blank, record_of_chunk, with_chunk, with_more}
use Rattle.asm_base.specs.Chunks.{Chunk, chunk_cmp}
use Rattle.plan_records.proofs.extent_map.ChunkEnds.{base_fits, base_stands, fills_chunks, front, more_long, none_from, two}
use Rattle.plan_records.proofs.extent_map.FileEnds.{blank_by, has_at}
use Rattle.plan_records.proofs.extent_map.Laws.{chunk_total, same_chunk}
use Rattle.plan_records.proofs.extent_map.Lookups.{new_longer, put_here, put_other, there_as_long}
use Rattle.plan_records.proofs.extent_map.Numbering.{Stands, found_self}
use Rattle.plan_records.proofs.extent_map.Values.{IsHomes}
use Rattle.plan_records.specs.staleness_directory.Marks as stale
use Rattle.plan_records.specs.staleness_directory.Marks.{Marked, marks_at, with_marks}
use Rattle.plan_records.proofs.staleness_directory.Laws as stale_laws
use Rattle.plan_records.specs.catalog_tables.Changing.{IsAfter}
use Rattle.catalog.specs.ExtentPlans.{HasChunkRoom, LacksBlocks, MayAppend, are_small, first_new, homes_appended, is_small, marks_appended, marks_behind, marks_or_none, with_appended}
use Rattle.plan_records.specs.catalog_tables.Faults.{IsCatalog}
use Rattle.plan_records.specs.catalog_tables.Placing.{HasUnits, after_homes, home_taken, homes_of, unused_maps}
use Rattle.catalog.specs.Plans.{IsPlan}
use Rattle.plan_records.specs.catalog_tables.Rules.{are_marks_of, are_on_disks, are_within, are_within_head, blocks_used, has_chunk, has_copies, is_mark_of}
use Rattle.plan_records.specs.catalog_tables.Tables.{AreTables, Catalogued, Tables}
use Rattle.catalog.proofs.EditLaws.{IsEdited, IsRightChunk, after_two, changed, chunk_right, due_by, edited_plan, extent_in, homes_set, marks_set}
use Rattle.plan_records.proofs.catalog_tables.NewRecords.{HasRoom, chunk_there, marks_there, two_old_room, two_room}
use Rattle.plan_records.proofs.catalog_tables.EntryLaws.{both, either, right_at, three_true}
use Rattle.plan_records.proofs.catalog_tables.HomeUnits.{takes}
use Rattle.catalog.proofs.MarkPlans.{Stands as ChunkStands, stands, some_of, zip_at}
use Rattle.catalog.proofs.MovePlans.{units_long}
use Rattle.plan_records.proofs.catalog_tables.PlacingLaws.{no_extents}
use Rattle.catalog.proofs.UnitEdits.{as_many, cut, glue, units_edited, units_new}

-- ---- lists in parts

or_true : (b : Bool) → (b || true) ≡ true
or_true true = refl
or_true false = refl

pub all_joined : {A : Type 0} (test : A → Bool) (xs ys : List A) → list_all test xs ≡ true → list_all test ys ≡ true → list_all test (xs ++ ys) ≡ true
all_joined test [] ys a b = b
all_joined test (x ∷ xs) ys a b = let p = and_parts (test x) (list_all test xs) a in rw p.0 (all_joined test xs ys p.1 b)

pub all_first : {A : Type 0} (test : A → Bool) (n : ℕ) (xs : List A) → list_all test xs ≡ true → list_all test (take n xs) ≡ true
all_first test zero xs a = refl
all_first test (suc n) [] a = refl
all_first test (suc n) (x ∷ xs) a = let p = and_parts (test x) (list_all test xs) a in rw p.0 (all_first test n xs p.1)

pub all_later : {A : Type 0} (test : A → Bool) (n : ℕ) (xs : List A) → list_all test xs ≡ true → list_all test (drop n xs) ≡ true
all_later test zero xs a = a
all_later test (suc n) [] a = refl
all_later test (suc n) (x ∷ xs) a = all_later test n xs (and_parts (test x) (list_all test xs) a).1

all_more : (test : Homes → Bool) (base homes : List Homes) → list_all test base ≡ true → list_all test homes ≡ true → list_all test (with_more base homes) ≡ true
all_more test base homes a b =
    all_joined test (take (count_in base) base ++ homes) (drop (count_in base + length homes) base) (all_joined test (take (count_in base) base) homes (all_first test (count_in base) base a) b)
    (all_later test (count_in base + length homes) base a)

pub all_same : {A : Type 0} (test : A → Bool) (n : ℕ) (x : A) → test x ≡ true → list_all test (replicate n x) ≡ true
all_same test zero x a = refl
all_same test (suc n) x a = rw a (all_same test n x a)

-- ---- the homes that a chunk has then

-- no extent is there, so there are no homes
no_homes : (f i len : ℕ) (hs : Homes) → length hs ≡ 3 → has_home hs ≡ false → placed_copies f i len hs ≡ []
no_homes f i len (None ∷ None ∷ None ∷ []) three none = refl
no_homes f i len (None ∷ None ∷ Some c ∷ []) three none = absurd cc
no_homes f i len (None ∷ Some b ∷ hs) three none = absurd cc
no_homes f i len (Some a ∷ hs) three none = absurd cc
no_homes f i len [] three none = absurd (omega (arith, three))
no_homes f i len (None ∷ []) three none = absurd (omega (arith, three))
no_homes f i len (None ∷ None ∷ []) three none = absurd (omega (arith, three))
no_homes f i len (None ∷ None ∷ o ∷ x ∷ hs) three none = absurd (omega (arith, three))

not_true : (b : Bool) → not b ≡ true → b ≡ false
not_true true e = absurd cc
not_true false e = refl

pub blank_homes : (step f i : ℕ) (xs : List Homes) → AllByRecursion IsHomes xs → is_blank xs ≡ true → placed_extents step f i xs ≡ []
blank_homes step f i [] fits blank = refl
blank_homes step f i (x ∷ xs) fits blank =
    let p = and_parts (not (has_home x)) (is_blank xs) blank in
    rw (no_homes f i (units_of step i) x fits.0.0 (not_true (has_home x) p.0)) (blank_homes step f (suc i) xs fits.1 p.1)

pub homes_joined : (step f i : ℕ) (xs ys : List Homes) → placed_extents step f i (xs ++ ys) ≡ placed_extents step f i xs ++ placed_extents step f (i + length xs) ys
homes_joined step f i [] ys = let same : i + 0 ≡ i = omega arith in ap (λ (n : ℕ). placed_extents step f n ys) (sym same)
homes_joined step f i (x ∷ xs) ys =
    let index : suc i + length xs ≡ i + suc (length xs) = omega arith in
    ap (λ (ps : List Placed). placed_copies f i (units_of step i) x ++ ps) (homes_joined step f (suc i) xs ys ∙ ap (λ (n : ℕ). placed_extents step f (suc i) xs ++ placed_extents step f n ys) index)
    ∙ sym (append_assoc (placed_copies f i (units_of step i) x) (placed_extents step f (suc i) xs) (placed_extents step f (i + suc (length xs)) ys))

pub fits_later : (n : ℕ) (xs : List Homes) → AllByRecursion IsHomes xs → AllByRecursion IsHomes (drop n xs)
fits_later zero xs fits = fits
fits_later (suc n) [] fits = tt
fits_later (suc n) (x ∷ xs) fits = fits_later n xs fits.1

module _ (base homes : List Homes) (fits : AreFitting IsHomes 256 base) (right : Stands base) (there : list_all has_home homes ≡ true) (room : count_in base + length homes ≤ 256) where
  abbrev n : ℕ
  n = count_in base

  abbrev m : ℕ
  m = count_in base + length homes

  abbrev new : List Homes
  new = with_more base homes

  stopped : (p : ℕ) → p < 256 → n ≤ p → has_at base p ≡ false
  stopped p lt past = none_from base n p right (prefix_len_stops has_home base [] (omega (arith, fits.0, lt, past))) past

  blank_behind : (j : ℕ) → n ≤ j → is_blank (drop j base) ≡ true
  blank_behind j past = blank_by (drop j base) (λ p lt. ap has_home (get_or-drop j base p []) ∙ stopped (j + p) (omega (arith, lt, length-drop j base, fits.0)) (omega (arith, past)))

  -- an extent that was there is there
  kept_at : (p : ℕ) → p < 256 → has_at base p ≡ true → get_or new p [] ≡ get_or base p []
  kept_at p lt is = elim (cases_lt p n) [
    | inl old ↦
        get_or_append_left (take n base ++ homes) (drop m base) [] p (omega (arith, two base homes fits.0 right there room, old))
        ∙ get_or_append_left (take n base) homes [] p (omega (arith, front base homes fits.0 right there room, old)) ∙ get_or-take n base p [] old
    | inr past ↦ absurd (true≢false (sym is ∙ stopped p lt past))
  ]

  -- homes of the chunk, taken after those that it had
  homes_more : (step f i : ℕ) (b us z : List UnitMap) → after_homes b (placed_extents step f i base) ≡ Some us → after_homes us (placed_extents step f (i + n) homes) ≡ Some z → after_homes b (placed_extents step f i new) ≡ Some z
  homes_more step f i b us z old more =
      let ahead : length (take n base) ≡ n = front base homes fits.0 right there room in
      let whole : placed_extents step f i base ≡ placed_extents step f i (take n base) ++ [] =
      ap (placed_extents step f i) (sym (take-append-drop n base)) ∙ homes_joined step f i (take n base) (drop n base)
      ∙ ap (λ (ps : List Placed). placed_extents step f i (take n base) ++ ps) (blank_homes step f (i + length (take n base)) (drop n base) (fits_later n base fits.1) (blank_behind n (omega arith))) in
      let first : after_homes b (placed_extents step f i (take n base)) ≡ Some us = ap (after_homes b) (sym (whole ∙ append-nil (placed_extents step f i (take n base)))) ∙ old in
      let second : after_homes us (placed_extents step f (i + length (take n base)) homes) ≡ Some z = ap (λ (j : ℕ). after_homes us (placed_extents step f (i + j) homes)) ahead ∙ more in
      let both = glue b us z (placed_extents step f i (take n base)) (placed_extents step f (i + length (take n base)) homes) first second in
      let all : placed_extents step f i new ≡ (placed_extents step f i (take n base) ++ placed_extents step f (i + length (take n base)) homes) ++ [] =
      homes_joined step f i (take n base ++ homes) (drop m base)
      ∙ ap (λ (ps : List Placed). ps ++ placed_extents step f (i + length (take n base ++ homes)) (drop m base)) (homes_joined step f i (take n base) homes)
      ∙ ap (λ (ps : List Placed). (placed_extents step f i (take n base) ++ placed_extents step f (i + length (take n base)) homes) ++ ps)
      (blank_homes step f (i + length (take n base ++ homes)) (drop m base) (fits_later m base fits.1) (blank_behind m (omega arith))) in
      ap (after_homes b) (all ∙ append-nil (placed_extents step f i (take n base) ++ placed_extents step f (i + length (take n base)) homes)) ∙ both

  -- marks of copies that were there are those of copies that are there
  mark_stays : (v p k : ℕ) → p < 256 → has_at base p ≡ false → (is_some (get_or (get_or base p []) k None) ≡ false) → is_mark_of v (get_or base p []) k ≡ true → is_mark_of v (get_or new p []) k ≡ true
  mark_stays v p k lt none away ok = by (has_bit v k) (ap (λ (b : Bool). not (has_bit v k) || b) (sym away) ∙ ok) where
    by : (b : Bool) → (not b || false) ≡ true → (not b || is_some (get_or (get_or new p []) k None)) ≡ true
    by true e = absurd cc
    by false e = refl

  marks_stay : (v p : ℕ) → p < 256 → are_marks_of (v, get_or base p []) ≡ true → are_marks_of (v, get_or new p []) ≡ true
  marks_stay v p lt ok = elim (either (has_at base p)) [
    | inl is ↦ ap (λ (x : Homes). are_marks_of (v, x)) (kept_at p lt is) ∙ ok
    | inr none ↦
        let a = and_parts (is_mark_of v (get_or base p []) 0) (is_mark_of v (get_or base p []) 1 && is_mark_of v (get_or base p []) 2) ok in
        let b = and_parts (is_mark_of v (get_or base p []) 1) (is_mark_of v (get_or base p []) 2) a.1 in
        let g = neither (is_some (get_or (get_or base p []) 0 None)) (is_some (get_or (get_or base p []) 1 None)) (is_some (get_or (get_or base p []) 2 None)) none in
        three_true (is_mark_of v (get_or new p []) 0) (is_mark_of v (get_or new p []) 1) (is_mark_of v (get_or new p []) 2) (mark_stays v p 0 lt none g.0 a.0) (mark_stays v p 1 lt none g.1 b.0) (mark_stays v p 2 lt none g.2 b.1)
  ] where
    neither : (a b c : Bool) → (a || (b || c)) ≡ false → (a ≡ false) × (b ≡ false) × (c ≡ false)
    neither true b c e = absurd (true≢false e)
    neither false true c e = absurd (true≢false e)
    neither false false c e = (refl, refl, e)

  keeps : (copies p : ℕ) → p < 256 → has_copies copies (extent_in (Some base) p) ≡ true → has_copies copies (extent_in (Some new) p) ≡ true
  keeps copies p lt had = by (has_at base p) refl had where
    by : (b : Bool) → has_at base p ≡ b → has_copies copies (cond b (Some (get_or base p [])) None) ≡ true → has_copies copies (extent_in (Some new) p) ≡ true
    by true is e =
        ap (λ (x : Homes). has_copies copies (cond (has_home x) (Some x) None)) (kept_at p lt is) ∙ ap (λ (b : Bool). has_copies copies (cond b (Some (get_or base p [])) None)) is ∙ e
    by false is e = absurd cc

pub zip_all : (m : List ℕ) (w : List Homes) → ((p : ℕ) → p < length m → p < length w → are_marks_of (get_or m p 0, get_or w p []) ≡ true) → list_all are_marks_of (zip m w) ≡ true
zip_all [] w each = refl
zip_all (b ∷ m) [] each = refl
zip_all (b ∷ m) (h ∷ w) each = both (are_marks_of (b, h)) (list_all are_marks_of (zip m w)) (each 0 (omega arith) (omega arith)) (zip_all m w (λ p lt less. each (suc p) (omega (arith, lt)) (omega (arith, less))))

-- ---- marks of a chunk behind its first ones

-- the places of a list with another one behind its first places
module _ {A : Type 0} (first : ℕ) (xs ys : List A) (d : A) (inside : first + length ys ≤ length xs) where
  abbrev with_others : List A
  with_others = take first xs ++ ys ++ drop (first + length ys) xs

  ahead : length (take first xs) ≡ first
  ahead = omega (arith, length-take first xs, inside)

  ahead_two : length (take first xs ++ ys) ≡ first + length ys
  ahead_two = omega (arith, length-append (take first xs) ys, ahead)

  as_long : length with_others ≡ length xs
  as_long = omega (arith, length-append (take first xs ++ ys) (drop (first + length ys) xs), ahead_two, length-drop (first + length ys) xs, inside)

  at_first : (p : ℕ) → p < first → get_or with_others p d ≡ get_or xs p d
  at_first p lt =
      get_or_append_left (take first xs ++ ys) (drop (first + length ys) xs) d p (omega (arith, ahead_two, lt)) ∙ get_or_append_left (take first xs) ys d p (omega (arith, ahead, lt))
      ∙ get_or-take first xs p d lt

  at_others : (p : ℕ) → first ≤ p → p < first + length ys → get_or with_others p d ≡ get_or ys (p - first) d
  at_others p past lt = get_or_append_left (take first xs ++ ys) (drop (first + length ys) xs) d p (omega (arith, ahead_two, lt)) ∙ get_or-append_right (take first xs) ys first p d ahead past

  at_last : (p : ℕ) → first + length ys ≤ p → get_or with_others p d ≡ get_or xs p d
  at_last p past =
      let at : (first + length ys) + (p - (first + length ys)) ≡ p = omega (arith, past) in
      get_or-append_right (take first xs ++ ys) (drop (first + length ys) xs) (first + length ys) p d ahead_two past ∙ get_or-drop (first + length ys) xs (p - (first + length ys)) d
      ∙ ap (λ (j : ℕ). get_or xs j d) at

  all_others : (test : A → Bool) → list_all test xs ≡ true → list_all test ys ≡ true → list_all test with_others ≡ true
  all_others test a b = all_joined test (take first xs ++ ys) (drop (first + length ys) xs) (all_joined test (take first xs) ys (all_first test first xs a) b) (all_later test (first + length ys) xs a)

marks_with_allowed : (f n first : ℕ) (m new : List ℕ) → first + length new ≤ length m → list_all (λ (b : ℕ). ltb b 8) new ≡ true → is_item (marks_item f n m) ≡ true → is_item (marks_item f n (marks_behind first m new)) ≡ true
unfolding is_item
marks_with_allowed f n first m new inside three ok =
    let a = and_parts (ltb f (2 ^ 32)) _ ok in
    let b = and_parts (ltb (n + 1) (2 ^ 32)) _ a.1 in
    let d = and_parts (eqb (length m) 256) (list_all (λ (b : ℕ). ltb b 8) m) b.1 in
    let size : length (marks_behind first m new) ≡ 256 = as_long first m new 0 inside ∙ eqb-true (length m) 256 d.0 in
    rw (a.0, b.0, eq-eqb (length (marks_behind first m new)) 256 size) (all_others first m new 0 inside (λ (b : ℕ). ltb b 8) d.1 three)

-- ---- homes of the formats

-- homes that find their units free lie on disks that have a number
copies_fit : (f i len : ℕ) (hs : Homes) (ms z : List UnitMap) → length ms ≡ 64 → list_all is_small hs ≡ true → after_homes ms (placed_copies f i len hs) ≡ Some z → list_all is_home hs ≡ true
unfolding after_homes
copies_fit f i len [] ms z long small e = refl
copies_fit f i len (None ∷ hs) ms z long small e = copies_fit f i len hs ms z long small e
copies_fit f i len (Some h ∷ hs) ms z long small e =
    let b = bind_some (λ (next : List UnitMap). after_homes next (placed_copies f i len hs)) (home_taken ms h len) z e in
    let t = takes ms b.0 h len b.1 in
    let disk = slice_get_within ms h.disk t.map_before t.there in
    let s = and_parts (ltb h.unit (2 ^ 32)) (list_all is_small hs) small in
    let more : length b.0 ≡ 64 = ap length t.put ∙ length-set ms h.disk (with_run t.map_before h.unit len true) ∙ long in
    both (is_home (Some h)) (list_all is_home hs) (both (ltb h.disk 255) (ltb h.unit (2 ^ 32)) (lt-ltb h.disk 255 (omega (arith, disk, long))) s.0) (copies_fit f i len hs b.0 z more s.1 b.2)

extents_fit : (step f i : ℕ) (xs : List Homes) (ms z : List UnitMap) → length ms ≡ 64 → list_all are_small xs ≡ true → after_homes ms (placed_extents step f i xs) ≡ Some z → list_all is_homes xs ≡ true
extents_fit step f i [] ms z long small e = refl
extents_fit step f i (x ∷ xs) ms z long small e =
    let s = and_parts (are_small x) (list_all are_small xs) small in
    let a = and_parts (eqb (length x) 3) (list_all is_small x) s.0 in
    let b = cut ms z (placed_copies f i (units_of step i) x) (placed_extents step f (suc i) xs) e in
    let one : is_homes x ≡ true = both (eqb (length x) 3) (list_all is_home x) a.0 (copies_fit f i (units_of step i) x ms b.0 long a.1 b.1) in
    let more : length b.0 ≡ 64 = as_many ms b.0 (placed_copies f i (units_of step i) x) b.1 ∙ long in
    both (is_homes x) (list_all is_homes xs) one (extents_fit step f (suc i) xs b.0 z more s.1 b.2)

-- ---- the plan

pub new_marks_right : list_all are_marks_of (zip (replicate 256 0) (replicate 256 absent_homes)) ≡ true
unfolding has_bit
new_marks_right = refl

new_marks_allowed : (f n : ℕ) → f < 2 ^ 32 → n + 1 < 2 ^ 32 → is_item (marks_item f n (replicate 256 0)) ≡ true
unfolding is_item
new_marks_allowed f n file number = rw (lt-ltb f (2 ^ 32) file, lt-ltb (n + 1) (2 ^ 32) number, eq-eqb (length {A = ℕ} (replicate 256 0)) 256 (length-replicate {A = ℕ} 256 0)) (all_same (λ (b : ℕ). ltb b 8) 256 0 refl)

module _ (c : Catalogued) (is : IsCatalog c) (f n : ℕ) (homes : List Homes) (marks : List ℕ) (may : MayAppend c f n homes marks) (file : f < 2 ^ 32) (small : list_all are_small homes ≡ true) where
  abbrev k : Chunk
  k = (f, n)

  abbrev base : List Homes
  base = chunk_or_blank c.tables.extents (f, n)

  abbrev old_marks : List ℕ
  old_marks = marks_or_none c.tables.stale (f, n)

  abbrev more : List Homes
  more = with_more base homes

  abbrev xs : List Chunked
  xs = with_chunk c.tables.extents (f, n) more

  abbrev new_marks : List ℕ
  new_marks = marks_behind (count_in base) old_marks marks

  abbrev ms : List Marked
  ms = with_marks c.tables.stale (f, n) new_marks

  fits : AreFitting IsHomes 256 base
  fits = base_fits c.tables.extents f n is.rules.tables.extents may.behind

  right : Stands base
  right = base_stands c.tables.extents f n is.rules.tables.extents may.behind

  run : (z : List UnitMap) × (after_homes c.units (placed_extents c.shape.step f (first_new c.tables f n) homes) ≡ Some z)
  run = some_of (after_homes c.units (placed_extents c.shape.step f (first_new c.tables f n) homes)) may.free

  allowed : list_all is_homes homes ≡ true
  allowed = extents_fit c.shape.step f (first_new c.tables f n) homes c.units run.0 (units_long c is) small run.1

  here : chunk_at xs k ≡ Some more
  here = put_here chunk_cmp same_chunk k more (found_self f n) c.tables.extents

  others : (q : Chunk) → is_at (chunk_cmp q) k ≡ false → chunk_at xs q ≡ chunk_at c.tables.extents q
  others q miss = put_other chunk_cmp same_chunk k more q miss c.tables.extents

  marks_here : marks_at ms k ≡ Some new_marks
  marks_here = put_here chunk_cmp same_chunk k new_marks (found_self f n) c.tables.stale

  marks_others : (q : Chunk) → is_at (chunk_cmp q) k ≡ false → marks_at ms q ≡ marks_at c.tables.stale q
  marks_others q miss = put_other chunk_cmp same_chunk k new_marks q miss c.tables.stale

  -- the chunk is there with its marks, or neither is
  abbrev IsOld : Type 0
  IsOld = (w : List Homes) × (m : List ℕ) × ChunkStands c.tables (f, n) w m

  abbrev IsFresh : Type 0
  IsFresh = (chunk_at c.tables.extents (f, n) ≡ None) × (marks_at c.tables.stale (f, n) ≡ None)

  old_or_new : IsOld ⊎ IsFresh
  old_or_new = by (chunk_at c.tables.extents (f, n)) refl (marks_at c.tables.stale (f, n)) refl where
    by : (o : Option (List Homes)) → chunk_at c.tables.extents (f, n) ≡ o → (p : Option (List ℕ)) → marks_at c.tables.stale (f, n) ≡ p → IsOld ⊎ IsFresh
    by (Some w) e p g = inl (stands c (f, n) is (ap is_some e))
    by None e (Some m) g = absurd (true≢false (sym (right_at chunk_cmp same_chunk chunk_total (has_chunk c.tables) c.tables.stale (f, n) m is.rules.chunks g) ∙ ap is_some e))
    by None e None g = inr (e, g)

  base_old : (w : List Homes) → chunk_at c.tables.extents (f, n) ≡ Some w → base ≡ w
  base_old w e = ap (λ (o : Option (List Homes)). unwrap_or o (replicate 256 absent_homes)) e

  base_new : chunk_at c.tables.extents (f, n) ≡ None → base ≡ replicate 256 absent_homes
  base_new e = ap (λ (o : Option (List Homes)). unwrap_or o (replicate 256 absent_homes)) e

  marks_old : (m : List ℕ) → marks_at c.tables.stale (f, n) ≡ Some m → old_marks ≡ m
  marks_old m e = ap (λ (o : Option (List ℕ)). unwrap_or o (replicate 256 0)) e

  marks_new : marks_at c.tables.stale (f, n) ≡ None → old_marks ≡ replicate 256 0
  marks_new e = ap (λ (o : Option (List ℕ)). unwrap_or o (replicate 256 0)) e

  -- what holds of the chunk as it was, and of one without extents
  of_base : (P : List Homes → Type 0) → ((w : List Homes) → IsRightChunk c.tables c.tables.stale (f, n) w → P w) → P (replicate 256 absent_homes) → P base
  of_base P old new = elim old_or_new [
    | inl s ↦ subst P (sym (base_old s.0 s.2.homes)) (old s.0 (chunk_right c.shape c.tables (f, n) s.0 is.rules s.2.homes))
    | inr none ↦ subst P (sym (base_new none.0)) new
  ]

  old_allowed : is_item (marks_item f n old_marks) ≡ true
  old_allowed = elim old_or_new [
    | inl s ↦ ap (λ (m : List ℕ). is_item (marks_item f n m)) (marks_old s.1 s.2.marks) ∙ s.2.item
    | inr none ↦ ap (λ (m : List ℕ). is_item (marks_item f n m)) (marks_new none.1) ∙ new_marks_allowed f n file may.number
  ]

  marks_are : (length old_marks ≡ 256) × (list_all are_marks_of (zip old_marks base) ≡ true)
  marks_are = elim old_or_new [
    | inl s ↦ (
      ap length (marks_old s.1 s.2.marks) ∙ s.2.are.size,
      ap (λ (m : List ℕ). list_all are_marks_of (zip m base)) (marks_old s.1 s.2.marks) ∙ ap (λ (w : List Homes). list_all are_marks_of (zip s.1 w)) (base_old s.0 s.2.homes) ∙ (chunk_right c.shape c.tables (f, n) s.0 is.rules s.2.homes).stale s.1 s.2.marks,
    )
    | inr none ↦ (
      ap length (marks_new none.1) ∙ length-replicate {A = ℕ} 256 0,
      ap (λ (m : List ℕ). list_all are_marks_of (zip m base)) (marks_new none.1) ∙ ap (λ (w : List Homes). list_all are_marks_of (zip (replicate 256 0) w)) (base_new none.0) ∙ new_marks_right,
    )
  ]

  long : length more ≡ 256
  long = more_long base homes fits.0 right may.there may.room

  inside : count_in base + length marks ≤ length old_marks
  inside = omega (arith, may.room, may.marked, marks_are.0)

  homes_inside : count_in base + length homes ≤ length base
  homes_inside = omega (arith, may.room, fits.0)

  marks_allowed : is_item (marks_item f n new_marks) ≡ true
  marks_allowed = marks_with_allowed f n (count_in base) old_marks marks inside may.three old_allowed

  -- a mark that was there is that of a copy that is there, and so is one of the extents that come
  old_right : (p : ℕ) → p < 256 → are_marks_of (get_or old_marks p 0, get_or more p []) ≡ true
  old_right p lt = marks_stay base homes fits right may.there may.room (get_or old_marks p 0) p lt (zip_at old_marks base p marks_are.1 (omega (arith, lt, marks_are.0)) (omega (arith, lt, fits.0)))

  marks_right : list_all are_marks_of (zip new_marks more) ≡ true
  marks_right = zip_all new_marks more (λ p lt less. at p (omega (arith, less, long))) where
    at : (p : ℕ) → p < 256 → are_marks_of (get_or new_marks p 0, get_or more p []) ≡ true
    at p lt = elim (cases_lt p (count_in base)) [
      | inl before ↦ ap (λ (b : ℕ). are_marks_of (b, get_or more p [])) (at_first (count_in base) old_marks marks 0 inside p before) ∙ old_right p lt
      | inr past ↦ elim (cases_lt p (count_in base + length marks)) [
        | inl new ↦
            ap (λ (b : ℕ). are_marks_of (b, get_or more p [])) (at_others (count_in base) old_marks marks 0 inside p past new)
            ∙ ap (λ (h : Homes). are_marks_of (get_or marks (p - count_in base) 0, h)) (at_others (count_in base) base homes [] homes_inside p past (omega (arith, new, may.marked)))
            ∙ zip_at marks homes (p - count_in base) may.stale (omega (arith, past, new)) (omega (arith, past, new, may.marked))
        | inr behind ↦ ap (λ (b : ℕ). are_marks_of (b, get_or more p [])) (at_last (count_in base) old_marks marks 0 inside p behind) ∙ old_right p lt
      ]
    ]

  within : are_within_head (head_at c.tables.files f) more ≡ true
  within = by (head_at c.tables.files f) may.copies (of_base (λ w. are_within_head (head_at c.tables.files f) w ≡ true) (λ w r. r.copies) (none_within (head_at c.tables.files f))) where
    none_within : (o : Option FileHead) → are_within_head o (replicate 256 absent_homes) ≡ true
    none_within None = refl
    none_within (Some head) =
        let one : are_within head.copies absent_homes ≡ true =
        three_true (ltb 0 head.copies || true) (ltb 1 head.copies || true) (ltb 2 head.copies || true) (or_true (ltb 0 head.copies)) (or_true (ltb 1 head.copies)) (or_true (ltb 2 head.copies)) in
        all_same (are_within head.copies) 256 absent_homes one

    by : (o : Option FileHead) → are_within_head o homes ≡ true → are_within_head o base ≡ true → are_within_head o more ≡ true
    by None come had = refl
    by (Some head) come had = all_more (are_within head.copies) base homes had come

  apart : list_all are_on_disks more ≡ true
  apart = all_more are_on_disks base homes (of_base (λ w. list_all are_on_disks w ≡ true) (λ w r. r.apart) (all_same are_on_disks 256 absent_homes refl)) may.apart

  chunk_is : (x : List Homes) → chunk_at xs k ≡ Some x → IsRightChunk c.tables ms k x
  chunk_is x there = subst (λ (y : List Homes). IsRightChunk c.tables ms k y) (some_is more x (sym here ∙ there)) (record {
    marked = ap is_some marks_here;
    owned = may.owned;
    copies = within;
    apart = apart;
    stale = λ m has. subst (λ (y : List ℕ). list_all are_marks_of (zip y more) ≡ true) (some_is new_marks m (sym marks_here ∙ has)) marks_right;
  })

  keeps_copies : (copies p : ℕ) → p < 256 → has_copies copies (extent_in (chunk_at c.tables.extents k) p) ≡ true → has_copies copies (extent_in (chunk_at xs k) p) ≡ true
  keeps_copies copies p lt old = ap (λ (o : Option (List Homes)). has_copies copies (extent_in o p)) here ∙ keeps base homes fits right may.there may.room copies p lt (was (chunk_at c.tables.extents k) refl) where
    was : (o : Option (List Homes)) → chunk_at c.tables.extents k ≡ o → has_copies copies (extent_in (Some base) p) ≡ true
    was None e = absurd (true≢false (sym (ap (λ (o : Option (List Homes)). has_copies copies (extent_in o p)) (sym e) ∙ old)))
    was (Some w) e = ap (λ (y : List Homes). has_copies copies (extent_in (Some y) p)) (base_old w e) ∙ ap (λ (o : Option (List Homes)). has_copies copies (extent_in o p)) (sym e) ∙ old

  module _ (room : chunk_at c.tables.extents (f, n) ≡ None → blocks_used c.tables + 4 ≤ c.shape.dir_blocks) where
    edit : IsEdited c.shape c.tables k xs ms
    edit = record {
      extents = fills_chunks c.tables.extents f n homes is.rules.tables.extents file may.number (both (list_all is_homes homes) (list_all has_home homes) allowed may.there) may.behind may.room;
      stale = stale_laws.put_keeps_table c.tables.stale k new_marks marks_allowed is.rules.tables.stale;
      homes = others;
      marks = marks_others;
      right = chunk_is;
      chunked = λ m has. ap is_some here;
      due = λ g head there all. due_by c.shape c.tables k xs ms others keeps_copies g head all;
      room = blocks;
    } where
      blocks : blocks_used (changed c.tables xs ms) + 2 ≤ c.shape.dir_blocks
      blocks = elim old_or_new [
        | inl s ↦
            let a = there_as_long chunk_cmp same_chunk chunk_total k more s.0 c.tables.extents is.rules.tables.extents.0.0 s.2.homes in
            let b = there_as_long chunk_cmp same_chunk chunk_total k new_marks s.1 c.tables.stale is.rules.tables.stale.0 s.2.marks in
            omega (arith, a, b, is.rules.room)
        | inr none ↦
            let a = new_longer chunk_cmp same_chunk chunk_total k more c.tables.extents is.rules.tables.extents.0.0 none.0 in
            let b = new_longer chunk_cmp same_chunk chunk_total k new_marks c.tables.stale is.rules.tables.stale.0 none.1 in
            omega (arith, a, b, room none.0)
      ]

    -- the homes of the chunk find their units free behind those of all chunks
    behind : (b : List UnitMap) → after_homes b (placed_extents c.shape.step f (n * 256) base) ≡ Some c.units → (y : List UnitMap) × (after_homes b (homes_of c.shape.step (k, more)) ≡ Some y)
    behind b e = (run.0, homes_more base homes fits right may.there may.room c.shape.step f (n * 256) b c.units run.0 e run.1)

    units : (es : List StatusEntry) → HasUnits c.shape es c.tables c.units → (us : List UnitMap) × HasUnits c.shape es (changed c.tables xs ms) us
    units es has = elim old_or_new [
      | inl s ↦
          units_edited c.shape.step (unused_maps c.shape es) c.units k c.tables.extents xs is.rules.tables.extents.0.0 edit.extents.0.0 others has s.0 more s.2.homes here
          (λ b e. behind b (ap (λ (w : List Homes). after_homes b (placed_extents c.shape.step f (n * 256) w)) (base_old s.0 s.2.homes) ∙ e))
      | inr none ↦
          let nothing : after_homes c.units (placed_extents c.shape.step f (n * 256) base) ≡ Some c.units =
          ap (after_homes c.units) (blank_homes c.shape.step f (n * 256) base fits.1 (ap is_blank (base_new none.0) ∙ all_same (λ (h : Homes). not (has_home h)) 256 absent_homes refl)) ∙ no_extents c.units c.shape.step f (n * 256) in
          units_new c.shape.step (unused_maps c.shape es) c.units k c.tables.extents xs is.rules.tables.extents.0.0 edit.extents.0.0 others has more none.0 here (behind c.units nothing)
    ]

    abbrev chunk_entry : DirectoryRecord
    chunk_entry = record_of_chunk ((f, n), more)

    abbrev marks_entry : DirectoryRecord
    marks_entry = stale.record_of_marks ((f, n), new_marks)

    two_records : AreTables (changed c.tables xs ms) → IsAfter c.tables (chunk_entry ∷ marks_entry ∷ []) [] (changed c.tables xs ms)
    two_records are =
        let mid : Tables = record c.tables { extents = xs } in
        after_two c.tables mid (changed c.tables xs ms) chunk_entry marks_entry are (homes_set c.tables f n xs (Some more) here others) (marks_set mid f n ms (Some new_marks) marks_here marks_others)

    free : HasRoom c (chunk_entry ∷ marks_entry ∷ [])
    free = elim old_or_new [
      | inl s ↦ two_old_room c chunk_entry marks_entry is (chunk_there c.tables f n s.0 s.2.homes) (marks_there c.tables (f, n) s.1 s.2.marks)
      | inr none ↦ two_room c chunk_entry marks_entry (room none.0)
    ]

  pub append_planned : (put : List DirectoryRecord) (gone : List Key) → HasChunkRoom c f n → put ≡ record_of_chunk ((f, n), homes_appended c.tables f n homes) ∷ stale.record_of_marks ((f, n), marks_appended c.tables f n marks) ∷ [] → gone ≡ []
      → IsPlan c put gone (with_appended c.tables f n homes marks)
  append_planned put gone blocks e g =
      rw (e, g) (edited_plan c k xs ms (record_of_chunk ((f, n), more) ∷ stale.record_of_marks ((f, n), new_marks) ∷ []) [] is (edit blocks.room) (two_records blocks.room) (units blocks.room) (omega arith) refl (free blocks.room))

-- ---- whether blocks are wanting

pub room_for_two : (used dir free : ℕ) → free + used + 2 ≡ dir → (free < 2 → ⊥) → used + 4 ≤ dir
room_for_two used dir free room some = elim (cases_lt free 2) [
  | inl few ↦ absurd (some few)
  | inr enough ↦ omega (arith, room, enough)
]

pub there_has_room : (c : Catalogued) (f n : ℕ) → is_some (chunk_at c.tables.extents (f, n)) ≡ true → HasChunkRoom c f n
there_has_room c f n there = record { room = λ none. absurd (true≢false (sym there ∙ ap is_some none)) }

pub free_has_room : (c : Catalogued) (f n free : ℕ) → free + blocks_used c.tables + 2 ≡ c.shape.dir_blocks → (free < 2 → ⊥) → HasChunkRoom c f n
free_has_room c f n free room some = record { room = λ none. room_for_two (blocks_used c.tables) c.shape.dir_blocks free room some }

pub lacks_two : (c : Catalogued) (f n free : ℕ) → is_some (chunk_at c.tables.extents (f, n)) ≡ false → free + blocks_used c.tables + 2 ≡ c.shape.dir_blocks → free < 2 → LacksBlocks c f n free
lacks_two c f n free none room few = record { new = no_chunk (chunk_at c.tables.extents (f, n)) none; free_is = room; few = few } where
  no_chunk : (o : Option (List Homes)) → is_some o ≡ false → o ≡ None
  no_chunk None e = refl
  no_chunk (Some w) e = absurd cc
