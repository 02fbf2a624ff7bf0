-- The chunks of tables whose items describe a group, and their marks, keep the rules.
use Rattle.std.proofs.Common.{◌≡◌, ℕ, suc, ◌+◌, ◌*◌, ◌<◌, ◌≤◌, Bool, true, false, get_or, List, [], ◌∷◌, length, Option, Some, None, refl, sym, ap, subst, ◌∙◌, arith, inl, inr}
use Rattle.std.specs.Prelude.{◌&&◌, ◌||◌, ◌/◌, ◌%◌, nat_lt}
use Rattle.std.specs.FinMap as maps
use Rattle.std.specs.List.{list_all, zip}
use Rattle.std.specs.Option.{is_some, unwrap_or}
use Rattle.std.proofs.lemmas.Bool.{and_from, cases_lt, lt-ltb}
use Rattle.asm_group.specs.Group.{File, Group}
use Rattle.asm_formats.specs.Among.{IsAmong}
use Rattle.asm_formats.specs.Items.{FileHead, Home, Homes, Item}
use Rattle.asm_formats.specs.Sets.{has_bit}
use Rattle.asm_formats.specs.Status.{Status}
use Rattle.asm_placement.specs.Naming.{is_pending}
use Rattle.asm_placement.specs.Tables.{home_of, is_stale}
use Rattle.asm_images.specs.Describing.{DescribesGroup, SameFile}
use Rattle.asm_base.specs.Chunks.{chunk_cmp}
use Rattle.file_directory.specs.Files.{head_at}
use Rattle.extent_map.specs.Extents.{Chunked, chunk_at}
use Rattle.extent_map.proofs.Laws.{chunk_total}
use Rattle.extent_map.proofs.Numbering.{size_of}
use Rattle.staleness_directory.specs.Marks.{Marked, marks_at}
use Rattle.catalog_tables.specs.Tables.{AreTables, Tables}
use Rattle.catalog_tables.specs.Rules.{AreOnRegular, are_chunk_marks, are_marks_of, are_on_regular, are_within, are_within_head, first_wrong, has_chunk, has_marks, is_mark_of, is_marked_right, is_on_regular, is_owned, is_regular_chunk, is_home_within, keeps_copies, marks_of}
use Rattle.catalog_tables.specs.Items.{AreItemsOf}
use Rattle.catalog_tables.proofs.TableItems.{among_found, chunks_exact}
use Rattle.catalog_laws.proofs.ItemLaws.{heads_are, homes_are, marks_are, stale_are}
use Rattle.group_of.proofs.Extents.{home_by}
use Rattle.group_of.proofs.HeadedFiles.{head_is}
use Rattle.group_of.proofs.Says.{pending_is}
use Rattle.fault_laws.proofs.Lists.{all_at, none_wrong}

-- ---- one extent

or_true : (b : Bool) → (b || true) ≡ true
or_true true = refl
or_true false = refl

within_one : (n k : ℕ) (hs : Homes) → (n ≤ k → get_or hs k None ≡ None) → is_home_within n hs k ≡ true
within_one n k hs none = elim (cases_lt k n) [
  | inl lt ↦ rw (lt-ltb k n lt) refl
  | inr le ↦ rw (none le) (or_true (nat_lt k n))
]

within : (n : ℕ) (hs : Homes) → ((k : ℕ) → n ≤ k → get_or hs k None ≡ None) → are_within n hs ≡ true
within n hs none =
    and_from (is_home_within n hs 0) (is_home_within n hs 1 && is_home_within n hs 2) (within_one n 0 hs (none 0))
    (and_from (is_home_within n hs 1) (is_home_within n hs 2) (within_one n 1 hs (none 1)) (within_one n 2 hs (none 2)))

mark_one : (m k : ℕ) (hs : Homes) → (has_bit m k ≡ true → is_some (get_or hs k None) ≡ true) → is_mark_of m hs k ≡ true
mark_one m k hs there = by (has_bit m k) refl where
  by : (b : Bool) → has_bit m k ≡ b → is_mark_of m hs k ≡ true
  by true e = rw (e, there e) refl
  by false e = rw e refl

marks_one : (m : ℕ) (hs : Homes) → ((k : ℕ) → has_bit m k ≡ true → is_some (get_or hs k None) ≡ true) → are_marks_of (m, hs) ≡ true
marks_one m hs there =
    and_from (is_mark_of m hs 0) (is_mark_of m hs 1 && is_mark_of m hs 2) (mark_one m 0 hs (there 0))
    (and_from (is_mark_of m hs 1) (is_mark_of m hs 2) (mark_one m 1 hs (there 1)) (mark_one m 2 hs (there 2)))

marks_all : (ms : List ℕ) (homes : List Homes) → ((p : ℕ) → p < length homes → are_marks_of (get_or ms p 0, get_or homes p []) ≡ true) → list_all are_marks_of (zip ms homes) ≡ true
marks_all [] homes each = refl
marks_all (m ∷ ms) [] each = refl
marks_all (m ∷ ms) (hs ∷ homes) each =
    and_from (are_marks_of (m, hs)) (list_all are_marks_of (zip ms homes)) (each 0 (omega arith)) (marks_all ms homes (λ p lt. each (suc p) (omega (arith, lt))))

-- ---- by the items

module _ (r : Status) (items : List Item) (t : Tables) (g : Group) (a : AreTables t) (is : AreItemsOf t items) (d : DescribesGroup r items g) where
  chunk_found : (x : Chunked) → IsAmong t.extents x → chunk_at t.extents x.0 ≡ Some x.1
  chunk_found x h = among_found chunk_cmp chunk_total chunks_exact t.extents x a.extents.0.0 h

  marks_found : (x : Marked) → IsAmong t.stale x → marks_at t.stale x.0 ≡ Some x.1
  marks_found x h = among_found chunk_cmp chunk_total chunks_exact t.stale x a.stale.0 h

  pub marked : first_wrong (has_marks t) t.extents ≡ None
  marked = none_wrong (has_marks t) t.extents (λ x h.
      ap is_some (sym (marks_are t items a is x.0.0 x.0.1)) ∙ sym (d.extent_rules.marks x.0.0 x.0.1) ∙ ap is_some (homes_are t items a is x.0.0 x.0.1 ∙ chunk_found x h))

  pub chunks : first_wrong (has_chunk t) t.stale ≡ None
  chunks = none_wrong (has_chunk t) t.stale (λ x h.
      ap is_some (sym (homes_are t items a is x.0.0 x.0.1)) ∙ d.extent_rules.marks x.0.0 x.0.1 ∙ ap is_some (marks_are t items a is x.0.0 x.0.1 ∙ marks_found x h))

  -- ---- files

  pub same_file : (f : ℕ) → SameFile (head_at t.files f) (maps.get g.files f)
  same_file f = subst (λ (o : Option FileHead). SameFile o (maps.get g.files f)) (heads_are t items a is f) (d.files f)

  file_there : (f : ℕ) → is_some (head_at t.files f) ≡ is_some (maps.get g.files f)
  file_there f = by (head_at t.files f) refl (maps.get g.files f) (same_file f) where
    by : (o : Option FileHead) → head_at t.files f ≡ o → (p : Option File) → SameFile o p → is_some o ≡ is_some p
    by None at None same = refl
    by None at (Some file) same = absurd same
    by (Some head) at None same = absurd (omega (arith, same, (head_is t f head a at).system))
    by (Some head) at (Some file) same = refl

  pub owned : first_wrong (is_owned t) t.extents ≡ None
  owned = none_wrong (is_owned t) t.extents (λ x h.
      ap (λ (b : Bool). b || is_pending x.0.0 t.operations.pending) (file_there x.0.0)
      ∙ ap (λ (o : Option _). is_some (maps.get g.files x.0.0) || is_pending x.0.0 o) (sym (pending_is t items is))
      ∙ d.owned x.0.0 x.0.1 (ap is_some (homes_are t items a is x.0.0 x.0.1 ∙ chunk_found x h)))

  -- ---- homes

  chunk_long : (x : Chunked) → IsAmong t.extents x → length x.1 ≡ 256
  chunk_long x h = size_of t.extents x.0 x.1 a.extents.0.1 (chunk_found x h)

  -- the home of a copy of an extent of a chunk
  pub home_at : (x : Chunked) → IsAmong t.extents x → (p copy : ℕ) → p < length x.1 → home_of items x.0.0 (x.0.1 * 256 + p) copy ≡ get_or (get_or x.1 p []) copy None
  home_at x h p copy lt =
      let long = chunk_long x h in
      let chunk : (x.0.1 * 256 + p) / 256 ≡ x.0.1 = omega (arith, lt, long) in
      let place : (x.0.1 * 256 + p) % 256 ≡ p = omega (arith, lt, long) in
      home_by t items a is x.0.0 (x.0.1 * 256 + p) copy
      ∙ ap (λ (c : ℕ). get_or (get_or (unwrap_or (chunk_at t.extents (x.0.0, c)) []) ((x.0.1 * 256 + p) % 256) []) copy None) chunk
      ∙ ap (λ (k : ℕ). get_or (get_or (unwrap_or (chunk_at t.extents x.0) []) k []) copy None) place
      ∙ ap (λ (o : Option (List Homes)). get_or (get_or (unwrap_or o []) p []) copy None) (chunk_found x h)

  pub redundancy : first_wrong (keeps_copies t) t.extents ≡ None
  redundancy = none_wrong (keeps_copies t) t.extents (λ x h. by x h (head_at t.files x.0.0) refl) where
    by : (x : Chunked) → IsAmong t.extents x → (o : Option FileHead) → head_at t.files x.0.0 ≡ o → keeps_copies t x ≡ true
    by x h None e = ap (λ (o : Option FileHead). are_within_head o x.1) e
    by x h (Some head) e =
        ap (λ (o : Option FileHead). are_within_head o x.1) e
        ∙ all_at (are_within head.copies) x.1 [] (λ p lt. within head.copies (get_or x.1 p []) (λ copy le.
        sym (home_at x h p copy lt) ∙ d.extent_rules.redundancy x.0.0 (x.0.1 * 256 + p) copy head (heads_are t items a is x.0.0 ∙ e) le))

  pub regular : AreOnRegular r.entries t
  regular = none_wrong (is_regular_chunk r.entries) t.extents (λ x h. all_at (are_on_regular r.entries) x.1 [] (λ p lt.
      all_at (is_on_regular r.entries) (get_or x.1 p []) None (λ copy few. by x h p copy lt (get_or (get_or x.1 p []) copy None) refl))) where
        by : (x : Chunked) → IsAmong t.extents x → (p copy : ℕ) → p < length x.1 → (o : Option Home) → get_or (get_or x.1 p []) copy None ≡ o
            → is_on_regular r.entries (get_or (get_or x.1 p []) copy None) ≡ true
        by x h p copy lt None e = ap (is_on_regular r.entries) e
        by x h p copy lt (Some home) e = ap (is_on_regular r.entries) e ∙ d.regular x.0.0 (x.0.1 * 256 + p) copy home (home_at x h p copy lt ∙ e)

  -- ---- marks

  mark_at : (x : Marked) → IsAmong t.stale x → (p : ℕ) → p < 256 → marks_of t x.0.0 (x.0.1 * 256 + p) ≡ get_or x.1 p 0
  mark_at x h p lt =
      let chunk : (x.0.1 * 256 + p) / 256 ≡ x.0.1 = omega (arith, lt) in
      let place : (x.0.1 * 256 + p) % 256 ≡ p = omega (arith, lt) in
      ap (λ (c : ℕ). get_or (unwrap_or (marks_at t.stale (x.0.0, c)) []) ((x.0.1 * 256 + p) % 256) 0) chunk
      ∙ ap (λ (k : ℕ). get_or (unwrap_or (marks_at t.stale x.0) []) k 0) place
      ∙ ap (λ (o : Option (List ℕ)). get_or (unwrap_or o []) p 0) (marks_found x h)

  pub stale : first_wrong (is_marked_right t) t.stale ≡ None
  stale = none_wrong (is_marked_right t) t.stale (λ x h. by x h (chunk_at t.extents x.0) refl) where
    by : (x : Marked) → IsAmong t.stale x → (o : Option (List Homes)) → chunk_at t.extents x.0 ≡ o → is_marked_right t x ≡ true
    by x h None e = ap (λ (o : Option (List Homes)). are_chunk_marks o x.1) e
    by x h (Some homes) e =
        ap (λ (o : Option (List Homes)). are_chunk_marks o x.1) e
        ∙ marks_all x.1 homes (λ p lt. marks_one (get_or x.1 p 0) (get_or homes p []) (λ k bit. one p k lt bit))
      where
        one : (p k : ℕ) → p < length homes → has_bit (get_or x.1 p 0) k ≡ true → is_some (get_or (get_or homes p []) k None) ≡ true
        one p k lt bit =
            let long = size_of t.extents x.0 homes a.extents.0.1 e in
            let less : p < 256 = omega (arith, lt, long) in
            let chunk : (x.0.1 * 256 + p) / 256 ≡ x.0.1 = omega (arith, less) in
            let place : (x.0.1 * 256 + p) % 256 ≡ p = omega (arith, less) in
            let set : is_stale items x.0.0 (x.0.1 * 256 + p) k ≡ true = stale_are t items a is x.0.0 (x.0.1 * 256 + p) k ∙ ap (λ (m : ℕ). has_bit m k) (mark_at x h p less) ∙ bit in
            ap is_some (sym (home_by t items a is x.0.0 (x.0.1 * 256 + p) k
            ∙ ap (λ (c : ℕ). get_or (get_or (unwrap_or (chunk_at t.extents (x.0.0, c)) []) ((x.0.1 * 256 + p) % 256) []) k None) chunk
            ∙ ap (λ (j : ℕ). get_or (get_or (unwrap_or (chunk_at t.extents x.0) []) j []) k None) place
            ∙ ap (λ (o : Option (List Homes)). get_or (get_or (unwrap_or o []) p []) k None) e))
            ∙ d.extent_rules.stale x.0.0 (x.0.1 * 256 + p) k set
