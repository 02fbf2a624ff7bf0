-- Homes on disks that are in no quorum failure group.
use Rattle.std.proofs.Common.{◌≡◌, ℕ, zero, suc, Ordering, Bool, true, false, cond, eqb, get_or, List, [], ◌∷◌, ◌++◌, take, drop, replicate, Option, Some, None, refl, sym, ap, subst, ◌∙◌}
use Rattle.std.specs.Prelude.{◌&&◌, flat_map, slice_set, ◌/◌, ◌%◌}
use Rattle.std.specs.List.{list_all}
use Rattle.std.specs.Option.{is_some, unwrap_or}
use Rattle.std.specs.BTreeMap.{insert_entry, is_at}
use Rattle.std.specs.Map.{lookup, remove_entry, set_value}
use Rattle.std.specs.declared.cmp.Ordering.TheVariants.{Less, Equal, Greater}
use Rattle.std.proofs.lemmas.Bool.{and_parts}
use Rattle.std.proofs.lemmas.Option.{none-some}
use Rattle.asm_formats.specs.Items.{FileHead, Home, Homes, Item}
use Rattle.asm_formats.specs.Status.{Entry, entry_of}
use Rattle.catalog.proofs.asm_base.Exact.{some_is}
use Rattle.catalog.specs.asm_placement.Copies.{Copy, all_copies, copies_at, copies_from, entry_at_home, file_copies, has_any_home, home}
use Rattle.catalog.specs.asm_placement.Tables.{home_of}
use Rattle.catalog.specs.asm_placement.Work.{is_regular}
use Rattle.catalog.specs.extent_map.Extents.{Chunked, absent_homes, chunk_at, chunk_or_blank, count_in, cut_to, with_chunk, with_extent, with_more}
use Rattle.catalog.specs.asm_base.Chunks.{Chunk, chunk_cmp}
use Rattle.catalog.specs.ExtentPlans.{homes_moved, with_appended, with_cut, with_fewer, with_move, with_released}
use Rattle.catalog.specs.catalog_tables.Items.{AreItemsOf, chunk_copies}
use Rattle.catalog_laws.specs.RegularHomes.{AppendingKeepsRegular, CopiesAreRegular, CuttingKeepsRegular, HomesAreRegular, MovingKeepsRegular, RegularStays}
use Rattle.catalog.specs.catalog_tables.Rules.{AreOnRegular, are_on_regular, first_wrong, is_on_regular, is_regular_chunk, homes_at}
use Rattle.catalog.specs.catalog_tables.Tables.{AreTables, Tables}
use Rattle.catalog.proofs.AppendPlans.{all_first, all_joined, all_later, all_same}
use Rattle.catalog.proofs.catalog_tables.EntryLaws.{both}
use Rattle.catalog_laws.proofs.ItemLists.{items_say}
use Rattle.catalog.proofs.NumberedEntries.{first_passes, passes_more, rest_passes}

-- ---- entries of which all values pass a test

module _ {K X : Type 0} (test : X → Bool) where
  abbrev passes : K × X → Bool
  passes e = test e.1

  value_put : (R : K → K → Ordering) (es : List (K × X)) (k : K) (v : X) → first_wrong passes es ≡ None → test v ≡ true → first_wrong passes (insert_entry R es k v) ≡ None
  value_put R [] k v none ok = passes_more passes (k, v) [] ok refl
  value_put R (e ∷ es) k v none ok = by (R k e.0) refl (first_passes passes e es none) (value_put R es k v) where
    by : (o : Ordering) → R k e.0 ≡ o → (passes e ≡ true) × (first_wrong passes es ≡ None) → (first_wrong passes es ≡ None → test v ≡ true → first_wrong passes (insert_entry R es k v) ≡ None) → first_wrong passes (insert_entry R (e ∷ es) k v) ≡ None
    by Less q p more = rw q (passes_more passes (k, v) (e ∷ es) ok none)
    by Equal q p more = rw q (passes_more passes (e.0, v) es ok p.1)
    by Greater q p more = rw q (passes_more passes e (insert_entry R es k v) p.0 (more p.1 ok))

  value_gone : (gone : K → Bool) (es : List (K × X)) → first_wrong passes es ≡ None → first_wrong passes (remove_entry gone es) ≡ None
  value_gone gone [] none = refl
  value_gone gone (e ∷ es) none = by (gone e.0) refl (first_passes passes e es none) (value_gone gone es) where
    by : (b : Bool) → gone e.0 ≡ b → (passes e ≡ true) × (first_wrong passes es ≡ None) → (first_wrong passes es ≡ None → first_wrong passes (remove_entry gone es) ≡ None) → first_wrong passes (remove_entry gone (e ∷ es)) ≡ None
    by true q p more = rw q p.1
    by false q p more = rw q (passes_more passes e (remove_entry gone es) p.0 (more p.1))

  value_set : (at : K → Bool) (es : List (K × X)) (v : X) → first_wrong passes es ≡ None → test v ≡ true → first_wrong passes (set_value at es v) ≡ None
  value_set at [] v none ok = refl
  value_set at (e ∷ es) v none ok = by (at e.0) refl (first_passes passes e es none) (value_set at es v) where
    by : (b : Bool) → at e.0 ≡ b → (passes e ≡ true) × (first_wrong passes es ≡ None) → (first_wrong passes es ≡ None → test v ≡ true → first_wrong passes (set_value at es v) ≡ None) → first_wrong passes (set_value at (e ∷ es) v) ≡ None
    by true q p more = rw q (passes_more passes (e.0, v) es ok p.1)
    by false q p more = rw q (passes_more passes e (set_value at es v) p.0 (more p.1 ok))

  -- of a look-up, also where it finds none and the test passes what stands for it
  value_found : (at : K → Bool) (es : List (K × X)) (d : X) → first_wrong passes es ≡ None → test d ≡ true → test (unwrap_or (lookup at es) d) ≡ true
  value_found at [] d none ok = ok
  value_found at (e ∷ es) d none ok = by (at e.0) refl (first_passes passes e es none) (value_found at es d) where
    by : (b : Bool) → at e.0 ≡ b → (passes e ≡ true) × (first_wrong passes es ≡ None) → (first_wrong passes es ≡ None → test d ≡ true → test (unwrap_or (lookup at es) d) ≡ true) → test (unwrap_or (lookup at (e ∷ es)) d) ≡ true
    by true q p more = rw q p.0
    by false q p more = rw q (more p.1 ok)

-- ---- lists

all_set : {A : Type 0} (test : A → Bool) (xs : List A) (p : ℕ) (x : A) → list_all test xs ≡ true → test x ≡ true → list_all test (slice_set xs p x) ≡ true
all_set test [] p x all ok = refl
all_set test (y ∷ xs) zero x all ok = both (test x) (list_all test xs) ok (and_parts (test y) (list_all test xs) all).1
all_set test (y ∷ xs) (suc p) x all ok = let a = and_parts (test y) (list_all test xs) all in both (test y) (list_all test (slice_set xs p x)) a.0 (all_set test xs p x a.1 ok)

at_all : {A : Type 0} (test : A → Bool) (xs : List A) (p : ℕ) (d : A) → list_all test xs ≡ true → test d ≡ true → test (get_or xs p d) ≡ true
at_all test [] p d all ok = ok
at_all test (y ∷ xs) zero d all ok = (and_parts (test y) (list_all test xs) all).0
at_all test (y ∷ xs) (suc p) d all ok = at_all test xs p d (and_parts (test y) (list_all test xs) all).1 ok

all_where : {A : Type 0} (a b : A → Bool) (xs : List A) → ((x : A) → a x ≡ true → b x ≡ true) → list_all a xs ≡ true → list_all b xs ≡ true
all_where a b [] keeps all = refl
all_where a b (x ∷ xs) keeps all = let p = and_parts (a x) (list_all a xs) all in both (b x) (list_all b xs) (keeps x p.0) (all_where a b xs keeps p.1)

-- ---- chunks

module _ (es : List Entry) where
  abbrev test : List Homes → Bool
  test chunk = list_all (are_on_regular es) chunk

  blank : test (replicate 256 absent_homes) ≡ true
  blank = all_same (are_on_regular es) 256 absent_homes refl

  of_chunk : (t : Tables) (k : Chunk) → AreOnRegular es t → test (chunk_or_blank t.extents k) ≡ true
  of_chunk t k regular = value_found test (is_at (chunk_cmp k)) t.extents (replicate 256 absent_homes) regular blank

  chunk_put : (t : Tables) (k : Chunk) (w : List Homes) → AreOnRegular es t → test w ≡ true → first_wrong (is_regular_chunk es) (with_chunk t.extents k w) ≡ None
  chunk_put t k w regular ok = value_put test chunk_cmp t.extents k w regular ok

  more : (base homes : List Homes) → test base ≡ true → test homes ≡ true → test (with_more base homes) ≡ true
  more base homes a b =
      let n = count_in base in
      all_joined (are_on_regular es) (take n base ++ homes) _ (all_joined (are_on_regular es) (take n base) homes (all_first (are_on_regular es) n base a) b) (all_later (are_on_regular es) _ base a)

pub appending_keeps : AppendingKeepsRegular
appending_keeps es t f n homes marks regular ok = chunk_put es t (f, n) (with_more (chunk_or_blank t.extents (f, n)) homes) regular (more es (chunk_or_blank t.extents (f, n)) homes (of_chunk es t (f, n) regular) ok)

pub moving_keeps : MovingKeepsRegular
moving_keeps es t f i copy h regular ok = by (is_some (chunk_at t.extents (f, i / 256))) where
  had : list_all (are_on_regular es) (unwrap_or (chunk_at t.extents (f, i / 256)) []) ≡ true
  had = value_found (test es) (is_at (chunk_cmp (f, i / 256))) t.extents [] regular refl

  homes : are_on_regular es (homes_moved t f i copy h) ≡ true
  homes = all_set (is_on_regular es) (homes_at t f i) copy (Some h) (at_all (are_on_regular es) (unwrap_or (chunk_at t.extents (f, i / 256)) []) (i % 256) [] had refl) ok

  by : (b : Bool) → first_wrong (is_regular_chunk es) (cond b (set_value (is_at (chunk_cmp (f, i / 256))) t.extents (slice_set (unwrap_or (chunk_at t.extents (f, i / 256)) []) (i % 256) (homes_moved t f i copy h))) (with_chunk t.extents (f, i / 256) (slice_set (replicate 256 absent_homes) (i % 256) (homes_moved t f i copy h)))) ≡ None
  by true = value_set (test es) (is_at (chunk_cmp (f, i / 256))) t.extents (slice_set (unwrap_or (chunk_at t.extents (f, i / 256)) []) (i % 256) (homes_moved t f i copy h)) regular (all_set (are_on_regular es) (unwrap_or (chunk_at t.extents (f, i / 256)) []) (i % 256) (homes_moved t f i copy h) had homes)
  by false = chunk_put es t (f, i / 256) (slice_set (replicate 256 absent_homes) (i % 256) (homes_moved t f i copy h)) regular (all_set (are_on_regular es) (replicate 256 absent_homes) (i % 256) (homes_moved t f i copy h) (blank es) homes)

pub cutting_keeps : CuttingKeepsRegular
cutting_keeps es t f n kept regular = by (eqb kept 0) where
  whole : AreOnRegular es (with_released t f n)
  whole = value_gone (test es) (is_at (chunk_cmp (f, n))) t.extents regular

  fewer : AreOnRegular es (with_fewer t f n kept)
  fewer =
      let base = chunk_or_blank t.extents (f, n) in
      chunk_put es t (f, n) (cut_to kept base) regular
      (all_joined (are_on_regular es) (take kept base) (drop kept (replicate 256 absent_homes)) (all_first (are_on_regular es) kept base (of_chunk es t (f, n) regular)) (all_later (are_on_regular es) kept (replicate 256 absent_homes) (blank es)))

  by : (b : Bool) → AreOnRegular es (cond b (with_released t f n) (with_fewer t f n kept))
  by true = whole
  by false = fewer

-- ---- other entries

chunks_where : (old new : List Entry) (xs : List Chunked) → ((h : Option Home) → is_on_regular old h ≡ true → is_on_regular new h ≡ true) → first_wrong (is_regular_chunk old) xs ≡ None → first_wrong (is_regular_chunk new) xs ≡ None
chunks_where old new [] keeps none = refl
chunks_where old new (x ∷ xs) keeps none =
    let p = first_passes (is_regular_chunk old) x xs none in
    passes_more (is_regular_chunk new) x xs (all_where (are_on_regular old) (are_on_regular new) x.1 (λ hs. all_where (is_on_regular old) (is_on_regular new) hs keeps) p.0) (chunks_where old new xs keeps p.1)

pub regular_stays : RegularStays
regular_stays old new t stays regular = chunks_where old new t.extents keeps regular where
  keeps : (h : Option Home) → is_on_regular old h ≡ true → is_on_regular new h ≡ true
  keeps None ok = refl
  keeps (Some h) ok = stays h.disk ok

-- ---- by the items

pub homes_are_regular : HomesAreRegular
unfolding home_of
homes_are_regular es t items a is regular f i copy h e =
    let say = items_say t items a is in
    let had : list_all (are_on_regular es) (unwrap_or (chunk_at t.extents (f, i / 256)) []) ≡ true = value_found (test es) (is_at (chunk_cmp (f, i / 256))) t.extents [] regular refl in
    let homes : are_on_regular es (get_or (unwrap_or (chunk_at t.extents (f, i / 256)) []) (i % 256) []) ≡ true = at_all (are_on_regular es) (unwrap_or (chunk_at t.extents (f, i / 256)) []) (i % 256) [] had refl in
    let at : get_or (get_or (unwrap_or (chunk_at t.extents (f, i / 256)) []) (i % 256) []) copy None ≡ Some h =
    ap (λ (o : Option (List Homes)). get_or (get_or (unwrap_or o []) (i % 256) []) copy None) (sym (say.homes f (i / 256))) ∙ e in
    subst (λ (o : Option Home). is_on_regular es o ≡ true) at (at_all (is_on_regular es) (get_or (unwrap_or (chunk_at t.extents (f, i / 256)) []) (i % 256) []) copy None homes refl)

module _ (es : List Entry) where
  abbrev stands : Copy → Bool
  stands x = is_regular (entry_at_home es (home x))

  some_copies : (f i : ℕ) (hs : Homes) (copy k : ℕ) → are_on_regular es hs ≡ true → list_all stands (copies_at f i hs copy k) ≡ true
  some_copies f i hs copy zero ok = refl
  some_copies f i hs copy (suc k) ok = both _ (list_all stands (copies_at f i hs (suc copy) k)) (at_all (is_on_regular es) hs copy None ok refl) (some_copies f i hs (suc copy) k ok)

  extent_copies : (f i count : ℕ) (xs : List Homes) → list_all (are_on_regular es) xs ≡ true → list_all stands (copies_from f i count xs) ≡ true
  extent_copies f i count [] ok = refl
  extent_copies f i count (hs ∷ xs) ok =
      let p = and_parts (are_on_regular es hs) (list_all (are_on_regular es) xs) ok in
      by (has_any_home hs) (all_joined stands (copies_at f i hs 0 count) (copies_from f (suc i) count xs) (some_copies f i hs 0 count p.0) (extent_copies f (suc i) count xs p.1)) (extent_copies f (suc i) count xs p.1) where
        by : (b : Bool) → list_all stands (copies_at f i hs 0 count ++ copies_from f (suc i) count xs) ≡ true → list_all stands (copies_from f (suc i) count xs) ≡ true
            → list_all stands (cond b (copies_at f i hs 0 count ++ copies_from f (suc i) count xs) (copies_from f (suc i) count xs)) ≡ true
        by true here later = here
        by false here later = later

  of_file : (f i : ℕ) (xs : List Homes) (o : Option FileHead) → list_all (are_on_regular es) xs ≡ true → list_all stands (file_copies f i xs o) ≡ true
  of_file f i xs None ok = refl
  of_file f i xs (Some head) ok = extent_copies f i head.copies xs ok

  of_chunks : (t : Tables) (xs : List Chunked) → first_wrong (is_regular_chunk es) xs ≡ None → list_all stands (flat_map (chunk_copies t) xs) ≡ true
  of_chunks t [] none = refl
  of_chunks t (x ∷ xs) none =
      let p = first_passes (is_regular_chunk es) x xs none in
      all_joined stands (chunk_copies t x) (flat_map (chunk_copies t) xs) (of_file x.0.0 _ x.1 _ p.0) (of_chunks t xs p.1)

pub copies_are_regular : CopiesAreRegular
copies_are_regular es t items a is regular = ap (list_all (stands es)) (items_say t items a is).copies ∙ of_chunks es t t.extents regular
