-- Extents, their homes and their marks, as the items have them.
use Rattle.std.proofs.Common.{◌≡◌, ℕ, zero, suc, ◌+◌, ◌<◌, ◌≤◌, ◌^◌, Bool, true, false, cond, get_or, List, [], ◌∷◌, length, Option, Some, None, refl, sym, ap, subst, ◌∙◌, arith}
use Rattle.std.specs.Prelude.{◌&&◌, ◌||◌, ◌/◌, ◌%◌, ◌==◌, not, nat_lt}
use Rattle.std.specs.FinMap as maps
use Rattle.std.specs.List.{list_all}
use Rattle.std.specs.Option.{is_some, option_and_then, unwrap_or}
use Rattle.std.proofs.lemmas.Bool.{and_parts, eqb-true, lt-ltb, le-ltb, leb-true}
use Rattle.std.proofs.lemmas.Option.{none-some}
use Rattle.asm_group.specs.Shape.{Shape}
use Rattle.asm_group.specs.Group.{Cell, File}
use Rattle.asm_formats.specs.Among.{IsAmong}
use Rattle.asm_formats.specs.Items.{FileHead, Home, Homes, Item, chunk_item, chunk_len, is_homes, is_item}
use Rattle.asm_placement.specs.Layout as layout
use Rattle.asm_placement.specs.Naming.{is_pending}
use Rattle.asm_placement.specs.Tables.{head_of, homes_in, home_of, is_extent, marks_in}
use Rattle.asm_images.specs.Tables.{pending_of}
use Rattle.asm_base.proofs.Exact.{some_is}
use Rattle.catalog_laws.specs.file_directory.Files.{head_at, is_file_number}
use Rattle.catalog_laws.specs.extent_map.Extents as extents
use Rattle.catalog_laws.specs.extent_map.Extents.{Chunked, chunk_at, has_extent, has_home}
use Rattle.asm_base.specs.Chunks.{chunk_cmp}
use Rattle.asm_base.specs.Chunks as chunk_order
use Rattle.catalog_laws.proofs.extent_map.Laws.{chunk_total}
use Rattle.catalog_laws.proofs.extent_map.Numbering.{numbers_extents}
use Rattle.catalog_laws.specs.staleness_directory.Marks.{marks_at}
use Rattle.catalog_laws.specs.catalog_tables.Tables.{AreTables, Tables}
use Rattle.catalog_laws.specs.catalog_tables.Rules.{HasExtents, KeepsRules, are_within, are_within_head, has_chunk, has_copies, has_marks, is_copied, head_has_extent, is_owned, is_home_within, keeps_copies}
use Rattle.catalog_laws.specs.catalog_tables.Items.{AreItemsOf}
use Rattle.catalog_laws.proofs.catalog.NumberedEntries.{passes_each}
use Rattle.catalog_laws.proofs.catalog_tables.TableItems.{chunks_exact, each_of, found_is}
use Rattle.catalog_laws.proofs.ItemLaws.{heads_are, homes_are, marks_are}
use Rattle.group_of.specs.Groups.{HasCells, file_of_head, files_by_number}
use Rattle.group_of.proofs.HeadedFiles.{file_at, files_are, head_among, head_is}
use Rattle.group_of.proofs.Says as says

-- ---- lists

pub past : {A : Type 0} (xs : List A) (k : ℕ) (d : A) → length xs ≤ k → get_or xs k d ≡ d
past [] k d le = refl
past (x ∷ xs) zero d le = absurd (omega (arith, le))
past (x ∷ xs) (suc k) d le = past xs k d (omega (arith, le))

pub or_else : (a b : Bool) → (a || b) ≡ true → a ≡ false → b ≡ true
or_else true b e f = absurd cc
or_else false b e f = e

or_first : (a b c : Bool) → ((a || b) || c) ≡ (a || (b || c))
or_first true b c = refl
or_first false b c = refl

is_none : {A : Type 0} (o : Option A) → not (is_some o) ≡ true → o ≡ None
is_none None e = refl
is_none (Some x) e = absurd cc

clash : (b : Bool) → b ≡ true → b ≡ false → ⊥
clash true e f = absurd cc
clash false e f = absurd cc

-- ---- the homes of one extent

not_there : (n k : ℕ) (hs : Homes) → is_home_within n hs k ≡ true → n ≤ k → get_or hs k None ≡ None
not_there n k hs e le = is_none (get_or hs k None) (or_else (nat_lt k n) (not (is_some (get_or hs k None))) e (le-ltb k n le))

within_copy : (n : ℕ) (hs : Homes) (copy : ℕ) → is_homes hs ≡ true → are_within n hs ≡ true → n ≤ copy → get_or hs copy None ≡ None
within_copy n hs copy is e le =
    let a = and_parts (is_home_within n hs 0) (is_home_within n hs 1 && is_home_within n hs 2) e in
    let b = and_parts (is_home_within n hs 1) (is_home_within n hs 2) a.1 in
    by copy le a.0 b.0 b.1
  where
    three : length hs ≡ 3
    three = eqb-true (length hs) 3 (and_parts (length hs == 3) _ is).0

    by : (k : ℕ) → n ≤ k → is_home_within n hs 0 ≡ true → is_home_within n hs 1 ≡ true → is_home_within n hs 2 ≡ true → get_or hs k None ≡ None
    by zero le x y z = not_there n 0 hs x le
    by (suc zero) le x y z = not_there n 1 hs y le
    by (suc (suc zero)) le x y z = not_there n 2 hs z le
    by (suc (suc (suc k))) le x y z = past hs (suc (suc (suc k))) None (omega (arith, three))

within_at : (n : ℕ) (homes : List Homes) (p copy : ℕ) → list_all is_homes homes ≡ true → list_all (are_within n) homes ≡ true → n ≤ copy → get_or (get_or homes p []) copy None ≡ None
within_at n [] p copy is e le = refl
within_at n (hs ∷ homes) zero copy is e le = within_copy n hs copy (and_parts (is_homes hs) (list_all is_homes homes) is).0 (and_parts (are_within n hs) (list_all (are_within n) homes) e).0 le
within_at n (hs ∷ homes) (suc p) copy is e le = within_at n homes p copy (and_parts (is_homes hs) (list_all is_homes homes) is).1 (and_parts (are_within n hs) (list_all (are_within n) homes) e).1 le

-- an extent with all its copies has each of them
copied : (n : ℕ) (hs : Homes) (copy : ℕ) → n ≤ 3 → copy < n → (is_copied n hs 0 && (is_copied n hs 1 && is_copied n hs 2)) ≡ true → is_some (get_or hs copy None) ≡ true
copied n hs copy few lt e =
    let a = and_parts (is_copied n hs 0) (is_copied n hs 1 && is_copied n hs 2) e in
    let b = and_parts (is_copied n hs 1) (is_copied n hs 2) a.1 in
    by copy lt a.0 b.0 b.1
  where
    one : (k : ℕ) → k < n → is_copied n hs k ≡ true → is_some (get_or hs k None) ≡ true
    one k lt e = or_else (not (nat_lt k n)) (is_some (get_or hs k None)) e (ap not (lt-ltb k n lt))

    by : (k : ℕ) → k < n → is_copied n hs 0 ≡ true → is_copied n hs 1 ≡ true → is_copied n hs 2 ≡ true → is_some (get_or hs k None) ≡ true
    by zero lt x y z = one 0 lt x
    by (suc zero) lt x y z = one 1 lt y
    by (suc (suc zero)) lt x y z = one 2 lt z
    by (suc (suc (suc k))) lt x y z = absurd (omega (arith, lt, few))

at_extent : (n : ℕ) (o : Option (List Homes)) (p copy : ℕ) → n ≤ 3 → copy < n → has_copies n (option_and_then (λ chunk. cond (has_home (get_or chunk p [])) (Some (get_or chunk p [])) None) o) ≡ true
    → is_some (get_or (get_or (unwrap_or o []) p []) copy None) ≡ true
at_extent n None p copy few lt e = absurd cc
at_extent n (Some chunk) p copy few lt e = by (has_home (get_or chunk p [])) e where
  by : (b : Bool) → has_copies n (cond b (Some (get_or chunk p [])) None) ≡ true → is_some (get_or (get_or chunk p []) copy None) ≡ true
  by true e = copied n (get_or chunk p []) copy few lt e
  by false e = absurd cc

chunk_homes : (f c : ℕ) (homes : List Homes) → is_item (chunk_item f c homes) ≡ true → list_all is_homes homes ≡ true
unfolding is_item
chunk_homes f c homes e =
    let a = and_parts (nat_lt f (2 ^ 32)) (nat_lt (c + 1) (2 ^ 32) && ((length homes == chunk_len) && list_all is_homes homes)) e in
    let b = and_parts (nat_lt (c + 1) (2 ^ 32)) ((length homes == chunk_len) && list_all is_homes homes) a.1 in
    (and_parts (length homes == chunk_len) (list_all is_homes homes) b.1).1

-- the home of a copy, by the chunks
abbrev pub home_in : List Chunked → ℕ → ℕ → ℕ → Option Home
home_in chunks f i copy = get_or (get_or (unwrap_or (chunk_at chunks (f, i / chunk_len)) []) (i % chunk_len) []) copy None

pub home_by : (t : Tables) (items : List Item) → AreTables t → AreItemsOf t items → (f i copy : ℕ) → home_of items f i copy ≡ home_in t.extents f i copy
unfolding home_of
home_by t items a is f i copy = ap (λ (o : Option (List Homes)). get_or (get_or (unwrap_or o []) (i % chunk_len) []) copy None) (homes_are t items a is f (i / chunk_len))

module _ (s : Shape) (t : Tables) (items : List Item) (k : KeepsRules s t) (is : AreItemsOf t items) where
  home_at : (f i copy : ℕ) → home_of items f i copy ≡ home_in t.extents f i copy
  home_at f i copy = home_by t items k.tables is f i copy

  extent_by : (f i : ℕ) → is_extent items f i ≡ has_extent t.extents f i
  extent_by f i = rw (home_at f i 0, home_at f i 1, home_at f i 2) (or_first (is_some (get_or (homes f i) 0 None)) (is_some (get_or (homes f i) 1 None)) (is_some (get_or (homes f i) 2 None))) where
    homes : ℕ → ℕ → Homes
    homes f i = get_or (unwrap_or (chunk_at t.extents (f, i / chunk_len)) []) (i % chunk_len) []

  pub no_gap : (f i : ℕ) → is_extent items f (suc i) ≡ true → is_extent items f i ≡ true
  no_gap f i e = extent_by f i ∙ numbers_extents t.extents f i k.tables.extents (sym (extent_by f (suc i)) ∙ e)

  chunk_among : (f c : ℕ) (homes : List Homes) → chunk_at t.extents (f, c) ≡ Some homes → IsAmong t.extents ((f, c), homes)
  chunk_among f c homes e = found_is chunk_cmp chunk_total chunks_exact (f, c) t.extents homes e

  pub redundancy : (f i copy : ℕ) (head : FileHead) → head_of items f ≡ Some head → head.copies ≤ copy → home_of items f i copy ≡ None
  redundancy f i copy head e le = home_at f i copy ∙ by (chunk_at t.extents (f, i / chunk_len)) refl where
    there : head_at t.files f ≡ Some head
    there = sym (heads_are t items k.tables is f) ∙ e

    by : (o : Option (List Homes)) → chunk_at t.extents (f, i / chunk_len) ≡ o → get_or (get_or (unwrap_or o []) (i % chunk_len) []) copy None ≡ None
    by None at = refl
    by (Some homes) at =
        let among = chunk_among f (i / chunk_len) homes at in
        let within : are_within_head (head_at t.files f) homes ≡ true = passes_each (keeps_copies t) t.extents k.redundancy ((f, i / chunk_len), homes) among in
        let all : list_all (are_within head.copies) homes ≡ true = ap (λ (o : Option FileHead). are_within_head o homes) (sym there) ∙ within in
        within_at head.copies homes (i % chunk_len) copy (chunk_homes f (i / chunk_len) homes (each_of (λ (x : Chunked). is_item (extents.item_of_chunk x) ≡ true) t.extents ((f, i / chunk_len), homes) k.tables.extents.0.1 among)) all le

  pub marks : (f c : ℕ) → is_some (homes_in items f c) ≡ is_some (marks_in items f c)
  marks f c = ap is_some (homes_are t items k.tables is f c) ∙ by (chunk_at t.extents (f, c)) refl (marks_at t.stale (f, c)) refl ∙ sym (ap is_some (marks_are t items k.tables is f c)) where
    by : (o : Option (List Homes)) → chunk_at t.extents (f, c) ≡ o → (p : Option (List ℕ)) → marks_at t.stale (f, c) ≡ p → is_some o ≡ is_some p
    by None e None g = refl
    by (Some homes) e (Some ms) g = refl
    by (Some homes) e None g = absurd (clash (is_some (marks_at t.stale (f, c))) (passes_each (has_marks t) t.extents k.marked ((f, c), homes) (chunk_among f c homes e)) (ap is_some g))
    by None e (Some ms) g = absurd (clash (is_some (chunk_at t.extents (f, c))) (passes_each (has_chunk t) t.stale k.chunks ((f, c), ms) (found_is chunk_order.chunk_cmp chunk_total chunks_exact (f, c) t.stale ms g)) (ap is_some e))

  pub all_copies : (cells : ℕ → List Cell) (f i copy : ℕ) (file : File) → HasCells t cells → maps.get (files_by_number cells t.files) f ≡ Some file
      → layout.has_extent_by_size file.stripe s.au s.step (length file.cells) i ≡ true → copy < file.copies → is_some (home_of items f i copy) ≡ true
  all_copies cells f i copy file has at due lt = by (head_at t.files f) refl (sym (files_are cells t.files f) ∙ at) where
    by : (o : Option FileHead) → head_at t.files f ≡ o → file_at cells f o ≡ Some file → is_some (home_of items f i copy) ≡ true
    by None e none = absurd (none-some file none)
    by (Some head) e same =
        let file_is : file_of_head head (cells f) ≡ file = some_is (file_of_head head (cells f)) file same in
        let below : copy < head.copies = subst (λ (x : File). copy < x.copies) (sym file_is) lt in
        let size : length (cells f) ≡ head.size = has f head e in
        let here : layout.has_extent_by_size head.stripe s.au s.step (length (cells f)) i ≡ true = subst (λ (x : File). layout.has_extent_by_size x.stripe s.au s.step (length x.cells) i ≡ true) (sym file_is) due in
        let by_size : head_has_extent s head i ≡ true = subst (λ (n : ℕ). layout.has_extent_by_size head.stripe s.au s.step n i ≡ true) size here in
        let full = each_of (HasExtents t s) t.files (f, head) k.extents (head_among t.files f head e) i by_size in
        let few = leb-true head.copies 3 (and_parts _ _ (head_is t f head k.tables e).copies).1 in
        ap is_some (home_at f i copy) ∙ at_extent head.copies (chunk_at t.extents (f, i / chunk_len)) (i % chunk_len) copy few below full

  same_some : (cells : ℕ → List Cell) (f : ℕ) (o : Option FileHead) → is_some (file_at cells f o) ≡ is_some o
  same_some cells f None = refl
  same_some cells f (Some head) = refl

  pub owned : (cells : ℕ → List Cell) (f c : ℕ) → is_some (homes_in items f c) ≡ true → (is_some (maps.get (files_by_number cells t.files) f) || is_pending f (pending_of items)) ≡ true
  owned cells f c there = by (chunk_at t.extents (f, c)) refl (ap is_some (sym (homes_are t items k.tables is f c)) ∙ there) where
    file : is_some (maps.get (files_by_number cells t.files) f) ≡ is_file_number t.files f
    file = ap is_some (files_are cells t.files f) ∙ same_some cells f (head_at t.files f)

    op : is_pending f (pending_of items) ≡ is_pending f t.operations.pending
    op = ap (is_pending f) (says.pending_is t items is)

    by : (o : Option (List Homes)) → chunk_at t.extents (f, c) ≡ o → is_some o ≡ true → (is_some (maps.get (files_by_number cells t.files) f) || is_pending f (pending_of items)) ≡ true
    by None e has = absurd cc
    by (Some homes) e has = rw (file, op) (passes_each (is_owned t) t.extents k.owned ((f, c), homes) (chunk_among f c homes e))
