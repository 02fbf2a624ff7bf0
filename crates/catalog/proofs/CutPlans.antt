-- Plans by which a chunk loses extents, and keeps some.
use Rattle.std.proofs.Common.{◌≡◌, ◌≤◌, ◌<◌, ◌+◌, ◌-◌, ◌*◌, ◌/◌, ◌%◌, ◌^◌, ℕ, Bool, true, false, cond, eqb, ltb, List, [], ◌∷◌, ◌++◌, length, take, drop, get_or, replicate, Option, Some, None, refl, sym, ap, subst, ◌∙◌, arith, inl, inr, ◌⊎◌}
use Rattle.std.specs.Prelude.{◌&&◌, ◌||◌, not}
use Rattle.std.specs.List.{list_all, zip}
use Rattle.std.specs.Option.{is_some, unwrap_or}
use Rattle.std.specs.BTreeMap.{is_at}
use Rattle.std.proofs.lemmas.Bool.{and_parts, cases_lt, eq-eqb, eqb-true, lt-ltb, ltb-true, ne_eqb, true≢false}
use Rattle.std.proofs.lemmas.List.{append-nil, get_or_append_left, get_or-append_right, get_or-drop, get_or-replicate, get_or-take, length-append, length-drop, length-replicate, length-take}
use Rattle.std.proofs.Math.ListN.{take-append-drop}
use Rattle.asm_formats.specs.Items.{FileHead, Homes, Key, is_item, marks_item}
use Rattle.asm_formats.specs.Sets.{has_bit}
use Rattle.asm_formats.specs.Status.{Entry as StatusEntry}
use Rattle.asm_placement.specs.Placed.{Placed, placed_extents}
use Rattle.asm_base.specs.Records.{DirectoryRecord}
use Rattle.asm_base.proofs.Exact.{some_is}
use Rattle.plan_records.specs.allocator.UnitMaps.{UnitMap}
use Rattle.plan_records.specs.file_directory.Files.{head_at}
use Rattle.plan_records.specs.extent_map.Extents.{Chunked, IsExtentTable, absent_homes, chunk_at, chunk_or_blank, cut_to, has_home, record_of_chunk, with_chunk}
use Rattle.asm_base.specs.Chunks.{Chunk, chunk_cmp}
use Rattle.plan_records.proofs.extent_map.CutChunks.{cuts_chunks}
use Rattle.plan_records.proofs.extent_map.Laws.{chunk_total, same_chunk}
use Rattle.plan_records.proofs.extent_map.Lookups.{key_is, put_here, put_other, there_as_long}
use Rattle.plan_records.proofs.extent_map.Numbering.{found_self}
use Rattle.plan_records.proofs.extent_map.Values.{blank_fits}
use Rattle.plan_records.specs.staleness_directory.Marks as stale
use Rattle.plan_records.specs.staleness_directory.Marks.{Marked, marks_at, marks_to, with_marks}
use Rattle.plan_records.proofs.staleness_directory.Laws as stale_laws
use Rattle.plan_records.specs.catalog_tables.Changing.{IsAfter}
use Rattle.catalog.specs.ExtentPlans.{IsUndue, MayCut, marks_or_none, with_cut, with_fewer}
use Rattle.plan_records.specs.catalog_tables.Faults.{IsCatalog}
use Rattle.plan_records.specs.catalog_tables.Placing.{HasUnits, after_homes, homes_of, unused_maps}
use Rattle.catalog.specs.Plans.{IsPlan}
use Rattle.plan_records.specs.catalog_tables.Rules.{HasExtents, are_marks_of, are_on_disks, are_within, are_within_head, has_copies}
use Rattle.plan_records.specs.catalog_tables.Tables.{AreTables, Catalogued, Tables}
use Rattle.catalog.proofs.AppendPlans.{all_first, all_joined, all_later, all_same, blank_homes, fits_later, homes_joined, zip_all}
use Rattle.catalog.proofs.EditLaws.{IsEdited, IsRightChunk, after_two, changed, chunk_right, edited_plan, extent_in, homes_set, marks_set}
use Rattle.plan_records.proofs.catalog_tables.NewRecords.{chunk_there, marks_there, two_old_room}
use Rattle.plan_records.proofs.catalog_tables.EntryLaws.{both, either, three_true}
use Rattle.catalog.proofs.MarkPlans.{Stands, stands, zip_at}
use Rattle.catalog.proofs.UnitEdits.{cut, units_edited}

-- ---- lists that are cut

all_cut : {A : Type 0} (test : A → Bool) (kept : ℕ) (xs blank : List A) → list_all test xs ≡ true → list_all test blank ≡ true → list_all test (take kept xs ++ drop kept blank) ≡ true
all_cut test kept xs blank a b = all_joined test (take kept xs) (drop kept blank) (all_first test kept xs a) (all_later test kept blank b)

cut_long : {A : Type 0} (kept : ℕ) (xs blank : List A) → length xs ≡ 256 → length blank ≡ 256 → length (take kept xs ++ drop kept blank) ≡ 256
cut_long kept xs blank a b = omega (arith, length-append (take kept xs) (drop kept blank), length-take kept xs, length-drop kept blank, a, b)

kept_at : {A : Type 0} (kept p : ℕ) (xs blank : List A) (d : A) → length xs ≡ 256 → p < 256 → p < kept → get_or (take kept xs ++ drop kept blank) p d ≡ get_or xs p d
kept_at kept p xs blank d size inside lt = get_or_append_left (take kept xs) (drop kept blank) d p (omega (arith, length-take kept xs, size, inside, lt)) ∙ get_or-take kept xs p d lt

gone_at : {A : Type 0} (kept p : ℕ) (xs : List A) (x d : A) → length xs ≡ 256 → kept ≤ 256 → p < 256 → kept ≤ p → get_or (take kept xs ++ drop kept (replicate 256 x)) p d ≡ x
gone_at kept p xs x d size few inside past =
    let at : kept + (p - kept) ≡ p = omega (arith, past) in
    get_or-append_right (take kept xs) (drop kept (replicate 256 x)) kept p d (omega (arith, length-take kept xs, size, few)) past
    ∙ get_or-drop kept (replicate 256 x) (p - kept) d ∙ get_or-replicate 256 (kept + (p - kept)) x d (omega (arith, at, inside))

-- no copy has a mark where there is none
no_marks : are_marks_of (0, absent_homes) ≡ true
unfolding has_bit
no_marks = refl

marks_cut : (kept : ℕ) (m : List ℕ) (w : List Homes) → length m ≡ 256 → length w ≡ 256 → kept ≤ 256 → list_all are_marks_of (zip m w) ≡ true → list_all are_marks_of (zip (marks_to kept m) (cut_to kept w)) ≡ true
marks_cut kept m w marks size few all = zip_all (marks_to kept m) (cut_to kept w) (λ p lt less. at p (omega (arith, less, cut_long kept w (replicate 256 absent_homes) size (length-replicate {A = Homes} 256 absent_homes)))) where
  at : (p : ℕ) → p < 256 → are_marks_of (get_or (marks_to kept m) p 0, get_or (cut_to kept w) p []) ≡ true
  at p lt = elim (cases_lt p kept) [
    | inl below ↦
        ap (λ (b : ℕ). are_marks_of (b, get_or (cut_to kept w) p [])) (kept_at kept p m (replicate 256 0) 0 marks lt below)
        ∙ ap (λ (h : Homes). are_marks_of (get_or m p 0, h)) (kept_at kept p w (replicate 256 absent_homes) [] size lt below)
        ∙ zip_at m w p all (omega (arith, lt, marks)) (omega (arith, lt, size))
    | inr past ↦
        ap (λ (b : ℕ). are_marks_of (b, get_or (cut_to kept w) p [])) (gone_at kept p m 0 0 marks few lt past)
        ∙ ap (λ (h : Homes). are_marks_of (0, h)) (gone_at kept p w absent_homes [] size few lt past) ∙ no_marks
  ]

marks_allowed : (f n kept : ℕ) (m : List ℕ) → is_item (marks_item f n m) ≡ true → is_item (marks_item f n (marks_to kept m)) ≡ true
unfolding is_item
marks_allowed f n kept m ok =
    let a = and_parts (ltb f (2 ^ 32)) _ ok in
    let b = and_parts (ltb (n + 1) (2 ^ 32)) _ a.1 in
    let d = and_parts (eqb (length m) 256) (list_all (λ (b : ℕ). ltb b 8) m) b.1 in
    let size = cut_long kept m (replicate 256 0) (eqb-true (length m) 256 d.0) (length-replicate {A = ℕ} 256 0) in
    rw (a.0, b.0, eq-eqb (length (marks_to kept m)) 256 size) (all_cut (λ (b : ℕ). ltb b 8) kept m (replicate 256 0) d.1 (all_same (λ (b : ℕ). ltb b 8) 256 0 refl))

none_within : (o : Option FileHead) → are_within_head o (replicate 256 absent_homes) ≡ true
none_within None = refl
none_within (Some head) =
    all_same (are_within head.copies) 256 absent_homes
    (three_true (ltb 0 head.copies || true) (ltb 1 head.copies || true) (ltb 2 head.copies || true) (or_true (ltb 0 head.copies)) (or_true (ltb 1 head.copies)) (or_true (ltb 2 head.copies)))
  where
    or_true : (b : Bool) → (b || true) ≡ true
    or_true true = refl
    or_true false = refl

within_cut : (o : Option FileHead) (kept : ℕ) (w : List Homes) → are_within_head o w ≡ true → are_within_head o (cut_to kept w) ≡ true
within_cut None kept w ok = refl
within_cut (Some head) kept w ok = all_cut (are_within head.copies) kept w (replicate 256 absent_homes) ok (none_within (Some head))

-- ---- the plan

module _ (c : Catalogued) (is : IsCatalog c) (f n kept : ℕ) (may : MayCut c.shape c.tables f n kept) (w : List Homes) (m : List ℕ) (s : Stands c.tables (f, n) w m) where
  abbrev k : Chunk
  k = (f, n)

  abbrev new : List Homes
  new = cut_to kept w

  abbrev new_marks : List ℕ
  new_marks = marks_to kept m

  abbrev xs : List Chunked
  xs = with_chunk c.tables.extents (f, n) (cut_to kept w)

  abbrev ms : List Marked
  ms = with_marks c.tables.stale (f, n) (marks_to kept m)

  here : chunk_at xs k ≡ Some new
  here = put_here chunk_cmp same_chunk k new (found_self f n) c.tables.extents

  others : (q : Chunk) → is_at (chunk_cmp q) k ≡ false → chunk_at xs q ≡ chunk_at c.tables.extents q
  others q miss = put_other chunk_cmp same_chunk k new q miss c.tables.extents

  marks_here : marks_at ms k ≡ Some new_marks
  marks_here = put_here chunk_cmp same_chunk k new_marks (found_self f n) c.tables.stale

  marks_others : (q : Chunk) → is_at (chunk_cmp q) k ≡ false → marks_at ms q ≡ marks_at c.tables.stale q
  marks_others q miss = put_other chunk_cmp same_chunk k new_marks q miss c.tables.stale

  old : IsRightChunk c.tables c.tables.stale k w
  old = chunk_right c.shape c.tables k w is.rules s.homes

  chunk_is : (x : List Homes) → chunk_at xs k ≡ Some x → IsRightChunk c.tables ms k x
  chunk_is x there = subst (λ (y : List Homes). IsRightChunk c.tables ms k y) (some_is new x (sym here ∙ there)) (record {
    marked = ap is_some marks_here;
    owned = old.owned;
    copies = within_cut (head_at c.tables.files f) kept w old.copies;
    apart = all_cut are_on_disks kept w (replicate 256 absent_homes) old.apart (all_same are_on_disks 256 absent_homes refl);
    stale = λ y has. subst (λ (z : List ℕ). list_all are_marks_of (zip z new) ≡ true) (some_is new_marks y (sym marks_here ∙ has)) (marks_cut kept m w s.are.size s.long may.few (old.stale m s.marks));
  })

  never_due : (head : FileHead) (o : Option FileHead) → o ≡ Some head → IsUndue c.shape o n kept → IsUndue c.shape (Some head) n kept
  never_due head o e undue = subst (λ (x : Option FileHead). IsUndue c.shape x n kept) e undue

  due : (g : ℕ) (head : FileHead) → head_at c.tables.files g ≡ Some head → HasExtents c.tables c.shape (g, head) → HasExtents (changed c.tables xs ms) c.shape (g, head)
  due g head there all i wanted = elim (either (is_at (chunk_cmp (g, i / 256)) k)) [
    | inl hit ↦
        let same : (g, i / 256) ≡ (f, n) = key_is chunk_cmp same_chunk chunk_total (g, i / 256) k hit in
        let file : head_at c.tables.files f ≡ Some head = ap (λ (q : Chunk). head_at c.tables.files q.0) (sym same) ∙ there in
        elim (cases_lt (i % 256) kept) [
          | inl below ↦
              ap (λ (q : Chunk). has_copies head.copies (extent_in (chunk_at xs q) (i % 256))) same
              ∙ ap (λ (o : Option (List Homes)). has_copies head.copies (extent_in o (i % 256))) here
              ∙ ap (λ (h : Homes). has_copies head.copies (cond (has_home h) (Some h) None)) (kept_at kept (i % 256) w (replicate 256 absent_homes) [] s.long (omega arith) below)
              ∙ ap (λ (o : Option (List Homes)). has_copies head.copies (extent_in o (i % 256))) (sym s.homes)
              ∙ ap (λ (q : Chunk). has_copies head.copies (extent_in (chunk_at c.tables.extents q) (i % 256))) (sym same) ∙ all i wanted
          | inr past ↦ absurd (true≢false (sym wanted ∙ never_due head (head_at c.tables.files f) file may.undue i (ap (λ (q : Chunk). q.1) same) past))
        ]
    | inr miss ↦ ap (λ (o : Option (List Homes)). has_copies head.copies (extent_in o (i % 256))) (others (g, i / 256) miss) ∙ all i wanted
  ]

  extents_are : with_chunk c.tables.extents (f, n) (cut_to kept (chunk_or_blank c.tables.extents (f, n))) ≡ xs
  extents_are = ap (λ (o : Option (List Homes)). with_chunk c.tables.extents (f, n) (cut_to kept (unwrap_or o (replicate 256 absent_homes)))) s.homes

  marks_are : with_marks c.tables.stale (f, n) (marks_to kept (marks_or_none c.tables.stale (f, n))) ≡ ms
  marks_are = ap (λ (o : Option (List ℕ)). with_marks c.tables.stale (f, n) (marks_to kept (unwrap_or o (replicate 256 0)))) s.marks

  edit : IsEdited c.shape c.tables k xs ms
  edit = record {
    extents = subst (λ (ys : List Chunked). IsExtentTable ys) extents_are (cuts_chunks c.tables.extents f n kept is.rules.tables.extents may.there may.last);
    stale = stale_laws.put_keeps_table c.tables.stale k new_marks (marks_allowed f n kept m s.item) is.rules.tables.stale;
    homes = others;
    marks = marks_others;
    right = chunk_is;
    chunked = λ y has. ap is_some here;
    due = due;
    room = omega (arith, as_long, marks_as_long, is.rules.room);
  } where
    as_long : length xs ≡ length c.tables.extents
    as_long = there_as_long chunk_cmp same_chunk chunk_total k new w c.tables.extents is.rules.tables.extents.0.0 s.homes

    marks_as_long : length ms ≡ length c.tables.stale
    marks_as_long = there_as_long chunk_cmp same_chunk chunk_total k new_marks m c.tables.stale is.rules.tables.stale.0 s.marks

  abbrev chunk_entry : DirectoryRecord
  chunk_entry = record_of_chunk ((f, n), cut_to kept w)

  abbrev marks_entry : DirectoryRecord
  marks_entry = stale.record_of_marks ((f, n), marks_to kept m)

  after : AreTables (changed c.tables xs ms) → IsAfter c.tables (chunk_entry ∷ marks_entry ∷ []) [] (changed c.tables xs ms)
  after are =
      let mid : Tables = record c.tables { extents = xs } in
      after_two c.tables mid (changed c.tables xs ms) chunk_entry marks_entry are (homes_set c.tables f n xs (Some new) here others) (marks_set mid f n ms (Some new_marks) marks_here marks_others)

  -- the homes of the chunk that are left are the first of those that it had
  follows : (b : List UnitMap) → after_homes b (homes_of c.shape.step (k, w)) ≡ Some c.units → (y : List UnitMap) × (after_homes b (homes_of c.shape.step (k, new)) ≡ Some y)
  follows b e =
      let step = c.shape.step in
      let i = n * 256 in
      let blank : List Homes = replicate 256 absent_homes in
      let whole : placed_extents step f i w ≡ placed_extents step f i (take kept w) ++ placed_extents step f (i + length (take kept w)) (drop kept w) =
      ap (placed_extents step f i) (sym (take-append-drop kept w)) ∙ homes_joined step f i (take kept w) (drop kept w) in
      let front = cut b c.units (placed_extents step f i (take kept w)) (placed_extents step f (i + length (take kept w)) (drop kept w)) (ap (after_homes b) (sym whole) ∙ e) in
      let nothing : placed_extents step f (i + length (take kept w)) (drop kept blank) ≡ [] =
      blank_homes step f (i + length (take kept w)) (drop kept blank) (fits_later kept blank blank_fits.1) (all_later (λ (h : Homes). not (has_home h)) kept blank (all_same (λ (h : Homes). not (has_home h)) 256 absent_homes refl)) in
      let rest : placed_extents step f i (cut_to kept w) ≡ placed_extents step f i (take kept w) =
      homes_joined step f i (take kept w) (drop kept blank) ∙ ap (λ (ps : List Placed). placed_extents step f i (take kept w) ++ ps) nothing ∙ append-nil (placed_extents step f i (take kept w)) in
      (front.0, ap (after_homes b) rest ∙ front.1)

  units : (es : List StatusEntry) → HasUnits c.shape es c.tables c.units → (us : List UnitMap) × HasUnits c.shape es (changed c.tables xs ms) us
  units es has = units_edited c.shape.step (unused_maps c.shape es) c.units k c.tables.extents xs is.rules.tables.extents.0.0 edit.extents.0.0 others has w new s.homes here follows

  fewer_planned : IsPlan c (chunk_entry ∷ marks_entry ∷ []) [] (changed c.tables xs ms)
  fewer_planned = edited_plan c k xs ms (chunk_entry ∷ marks_entry ∷ []) [] is edit after units (omega arith) refl (two_old_room c chunk_entry marks_entry is (chunk_there c.tables f n w s.homes) (marks_there c.tables (f, n) m s.marks))

pub cut_planned : (c : Catalogued) (f n kept : ℕ) (put : List DirectoryRecord) (gone : List Key) → IsCatalog c → MayCut c.shape c.tables f n kept → (kept ≡ 0 → ⊥)
    → put ≡ record_of_chunk ((f, n), cut_to kept (chunk_or_blank c.tables.extents (f, n))) ∷ stale.record_of_marks ((f, n), marks_to kept (marks_or_none c.tables.stale (f, n))) ∷ [] → gone ≡ []
    → IsPlan c put gone (with_cut c.tables f n kept)
cut_planned c f n kept put gone is may some p g = by (stands c (f, n) is may.there) where
  kept_some : eqb kept 0 ≡ false
  kept_some = ne_eqb kept 0 some

  by : (w : List Homes) × (m : List ℕ) × Stands c.tables (f, n) w m → IsPlan c put gone (with_cut c.tables f n kept)
  by (w, m, s) =
      let homes : chunk_or_blank c.tables.extents (f, n) ≡ w = ap (λ (o : Option (List Homes)). unwrap_or o (replicate 256 absent_homes)) s.homes in
      let marks : marks_or_none c.tables.stale (f, n) ≡ m = ap (λ (o : Option (List ℕ)). unwrap_or o (replicate 256 0)) s.marks in
      rw (p, g, kept_some, homes, marks) (fewer_planned c is f n kept may w m s)
