-- A table made of pages, one after the other.
use Rattle.std.proofs.Common.{◌≡◌, ◌⊎◌, inl, inr, ⊎_elim, ℕ, zero, suc, ◌+◌, ◌<◌, ◌≤◌, Bool, true, false, cond, eqb, List, [], ◌∷◌, ◌++◌, length, take, map, get_or, replicate, refl, sym, ap, subst, ◌∙◌, Option, Some, None, arith}
use Rattle.std.specs.Prelude.{◌&&◌, not, is_some, nat_le, nat_lt, unwrap_or}
use Rattle.std.specs.List.{list_all}
use Rattle.std.specs.Option.{option_map}
use Rattle.std.proofs.lemmas.Bool.{true≢false, and_parts, leb-true, ltb-true, eq-eqb, eqb-true, ne_eqb, cases_Bool, cases_lt}
use Rattle.std.proofs.lemmas.Option.{same_Some}
use Rattle.std.proofs.lemmas.List.{take_more}
use Rattle.asm_formats.specs.asm_group.Names.{Bytes}
use Rattle.asm_formats.specs.Among.{IsAmong}
use Rattle.asm_formats.specs.Bytes.{block_size}
use Rattle.asm_formats.specs.Content.{is_page, is_empty_page, page_items}
use Rattle.asm_formats.specs.Items.{Item, Key, item_key, is_item}
use Rattle.asm_formats.specs.Logs.{logged_image}
use Rattle.asm_formats.specs.Records.{Frame, frame_of, record_spelling, decoded_frame}
use Rattle.asm_formats.specs.Status.{ascends_from}
use Rattle.asm_formats.specs.Values.{value}
use Rattle.asm_formats.proofs.Codec.{same_bytes}
use Rattle.asm_formats.proofs.PageReading.{page_read, record_read}
use Rattle.asm_formats.proofs.RecordReading.{frame_again, item_frame}
use Rattle.allocator.specs.asm_base.declared.block.Block.{Block}
use Rattle.allocator.specs.asm_base.Frames.{entry_frame}
use Rattle.allocator.specs.asm_base.Records.{DirectoryRecord, is_key, record_at}
use Rattle.page_map.specs.Applying.{page_number}
use Rattle.allocator.specs.asm_base.Blocks.{image_of_page}
use Rattle.page_map.specs.Contents.{AreItems, IsItemOf}
use Rattle.page_map.specs.Free.{is_page_free}
use Rattle.page_map.specs.Listing.{page_shown_by}
use Rattle.page_map.specs.Loaded.{AddsAt, AreFilled, IsTableOf, IsTwinPage, IsFirstTwin, IsBlockOf, PutsPage, ReadsItem, HasKey, StandsOnPage, HoldsTable, HasNoTable, MakesTwin, TwinCause}
use Rattle.page_map.specs.declared.loaded.LoadedError.{LoadedError}
use Rattle.page_map.specs.declared.loaded.LoadedError.TheVariants.{Twin, NoMemory}
use Rattle.page_map.specs.Tables.{PageTable, IsPageTable, Shows, place_at, block_of}
use Rattle.page_map.proofs.Adding.{added_is_table}
use Rattle.page_map.proofs.Keys.{one_or_other, same_key, key_itself}
use Rattle.page_map.proofs.Pages.{free_inside}
use Rattle.page_map.proofs.Showing.{holds_read}

-- ---- one block

some_items : (o : Option (List Item)) → is_some o ≡ true → (items : List Item) × (o ≡ Some items)
some_items None e = absurd (true≢false (sym e))
some_items (Some items) e = (items, refl)

pub block_item : (b : Block) → is_page b.bytes ≡ true → is_empty_page b.bytes ≡ false → (i : Item) × IsBlockOf b i
block_item b page filled =
    let s = some_items (page_items b.bytes) page in
    ⊎_elim
    (λ (zeros : (b.bytes ≡ replicate block_size 0) × (s.0 ≡ [])). absurd (true≢false (sym (same_bytes b.bytes (replicate block_size 0) zeros.0) ∙ filled)))
    (λ (one : (i : Item) × (is_item i ≡ true) × (b.bytes ≡ record_spelling i) × (s.0 ≡ i ∷ [])). (one.0, record { is = one.1; bytes = one.2 }))
    (page_read b.bytes s.0 s.1)

-- what is decoded of the block of an item
pub decodes : (b : Block) (i : Item) (read : Option DirectoryRecord) → IsBlockOf b i → option_map entry_frame read ≡ decoded_frame b.bytes → option_map entry_frame read ≡ Some (frame_of i)
decodes b i read is e = e ∙ ap decoded_frame is.bytes ∙ frame_again (frame_of i) (item_frame i is.is)

none_frame : (f : Frame) → None ≡ Some f → ⊥
none_frame f e = absurd cc

pub reads_some : (b : Block) → is_page b.bytes ≡ true → is_empty_page b.bytes ≡ false → option_map entry_frame None ≡ decoded_frame b.bytes → ⊥
reads_some b page filled e = let i = block_item b page filled in none_frame (frame_of i.0) (decodes b i.0 None i.1 e)

pub reads_item : (b : Block) (e : DirectoryRecord) → is_page b.bytes ≡ true → is_empty_page b.bytes ≡ false → option_map entry_frame (Some e) ≡ decoded_frame b.bytes → ReadsItem b e
reads_item b e page filled read =
    let i = block_item b page filled in
    let same : entry_frame e ≡ frame_of i.0 = same_Some (entry_frame e) (frame_of i.0) (decodes b i.0 (Some e) i.1 read) in
    record { item = i.0; is = i.1; key_is = sym (ap (λ (f : Frame). f.key) same); value_is = sym (ap (λ (f : Frame). f.value) same) }

pub puts_page : (old new : PageTable) (page : ℕ) (b : Block) (e : DirectoryRecord) → ReadsItem b e → place_at old.places e.0 ≡ None → AddsAt old new e.0 e.1 page → PutsPage old new page b
puts_page old new page b e reads absent adds = record {
  item = reads.item;
  reads = reads.is;
  absent = ap (place_at old.places) reads.key_is ∙ absent;
  adds = subst (λ (k : Key). AddsAt old new k (value reads.item) page) (sym reads.key_is) (subst (λ (v : List ℕ). AddsAt old new e.0 v page) (sym reads.value_is) adds);
}

pub has_key : (old : PageTable) (b : Block) (e : DirectoryRecord) → ReadsItem b e → is_some (place_at old.places e.0) ≡ true → HasKey old b
has_key old b e reads there = record { item = reads.item; reads = reads.is; there = ap (λ (k : Key). is_some (place_at old.places k)) reads.key_is ∙ there }

-- ---- lists

among_left : {A : Type 0} (xs ys : List A) (x : A) → IsAmong xs x → IsAmong (xs ++ ys) x
among_left [] ys x h = absurd h
among_left (y ∷ xs) ys x (inl e) = inl e
among_left (y ∷ xs) ys x (inr h) = inr (among_left xs ys x h)

among_last : {A : Type 0} (xs : List A) (x : A) → IsAmong (xs ++ x ∷ []) x
among_last [] x = inl refl
among_last (y ∷ xs) x = inr (among_last xs x)

among_end : {A : Type 0} (xs : List A) (y x : A) → IsAmong (xs ++ y ∷ []) x → IsAmong xs x ⊎ (x ≡ y)
among_end [] y x (inl e) = inr e
among_end [] y x (inr h) = absurd h
among_end (z ∷ xs) y x (inl e) = inl (inl e)
among_end (z ∷ xs) y x (inr h) = ⊎_elim (λ there. inl (inr there)) (λ e. inr e) (among_end xs y x h)

among_take : {A : Type 0} (i : ℕ) (xs : List A) (x : A) → IsAmong (take i xs) x → IsAmong xs x
among_take zero xs x h = absurd h
among_take (suc i) [] x h = absurd h
among_take (suc i) (y ∷ xs) x (inl e) = inl e
among_take (suc i) (y ∷ xs) x (inr h) = inr (among_take i xs x h)

pub among_at : {A : Type 0} (xs : List A) (i : ℕ) (d : A) → i < length xs → IsAmong xs (get_or xs i d)
among_at [] i d lt = absurd (omega arith)
among_at (x ∷ xs) zero d lt = inl refl
among_at (x ∷ xs) (suc i) d lt = inr (among_at xs i d (omega arith))

above : (m : ℕ) (zs : List (ℕ × Block)) → ascends_from m (map page_number zs) ≡ true → (q : ℕ × Block) → IsAmong zs q → m ≤ q.0
above m [] up q among = absurd among
above m (z ∷ zs) up q (inl same) = omega (arith, ap (λ (r : ℕ × Block). r.0) same, leb-true m z.0 (and_parts (nat_le m z.0) (ascends_from (z.0 + 1) (map page_number zs)) up).0)
above m (z ∷ zs) up q (inr there) =
    let parts = and_parts (nat_le m z.0) (ascends_from (z.0 + 1) (map page_number zs)) up in
    omega (arith, leb-true m z.0 parts.0, above (z.0 + 1) zs parts.1 q there)

-- of ascending pages those before one have smaller numbers
before : (m i : ℕ) (zs : List (ℕ × Block)) (d : ℕ × Block) → ascends_from m (map page_number zs) ≡ true → i < length zs → (q : ℕ × Block) → IsAmong (take i zs) q → q.0 < (get_or zs i d).0
before m zero zs d up lt q h = absurd h
before m (suc i) [] d up lt q h = absurd h
before m (suc i) (z ∷ zs) d up lt q (inl same) =
    let parts = and_parts (nat_le m z.0) (ascends_from (z.0 + 1) (map page_number zs)) up in
    omega (arith, ap (λ (r : ℕ × Block). r.0) same, above (z.0 + 1) zs parts.1 (get_or zs i d) (among_at zs i d (omega arith)))
before m (suc i) (z ∷ zs) d up lt q (inr there) =
    let parts = and_parts (nat_le m z.0) (ascends_from (z.0 + 1) (map page_number zs)) up in
    before (z.0 + 1) i zs d parts.1 (omega arith) q there

-- and those with a smaller number stand before it
are_before : (m i : ℕ) (zs : List (ℕ × Block)) (d : ℕ × Block) → ascends_from m (map page_number zs) ≡ true → i < length zs → (q : ℕ × Block) → IsAmong zs q → q.0 < (get_or zs i d).0
    → IsAmong (take i zs) q
are_before m zero [] d up lt q h less = absurd h
are_before m zero (z ∷ zs) d up lt q h less =
    let parts = and_parts (nat_le m z.0) (ascends_from (z.0 + 1) (map page_number zs)) up in
    absurd (⊎_elim (λ (same : q ≡ z). omega (arith, less, ap (λ (r : ℕ × Block). r.0) same)) (λ there. omega (arith, less, above (z.0 + 1) zs parts.1 q there)) h)
are_before m (suc i) [] d up lt q h less = absurd h
are_before m (suc i) (z ∷ zs) d up lt q (inl same) less = inl same
are_before m (suc i) (z ∷ zs) d up lt q (inr there) less =
    let parts = and_parts (nat_le m z.0) (ascends_from (z.0 + 1) (map page_number zs)) up in
    inr (are_before (z.0 + 1) i zs d parts.1 (omega arith) q there less)

all_are : {A : Type 0} (t : A → Bool) (xs : List A) (x : A) → list_all t xs ≡ true → IsAmong xs x → t x ≡ true
all_are t [] x all h = absurd h
all_are t (y ∷ xs) x all (inl e) = ap t e ∙ (and_parts (t y) (list_all t xs) all).0
all_are t (y ∷ xs) x all (inr h) = all_are t xs x (and_parts (t y) (list_all t xs) all).1 h

-- the image of a page
found : (m : ℕ) (zs : List (ℕ × Block)) (q : ℕ × Block) → ascends_from m (map page_number zs) ≡ true → IsAmong zs q → logged_image (map image_of_page zs) q.0 ≡ Some q.1.bytes
found m [] q up among = absurd among
found m (x ∷ zs) q up (inl same) = subst (λ (r : ℕ × Block). logged_image (map image_of_page (x ∷ zs)) r.0 ≡ Some r.1.bytes) (sym same) (rw (eq-eqb x.0 x.0 refl) refl)
found m (x ∷ zs) q up (inr there) =
    let parts = and_parts (nat_le m x.0) (ascends_from (x.0 + 1) (map page_number zs)) up in
    let past : x.0 + 1 ≤ q.0 = above (x.0 + 1) zs parts.1 q there in
    rw (ne_eqb x.0 q.0 (λ e. omega arith)) (found (x.0 + 1) zs q parts.1 there)

missing : (zs : List (ℕ × Block)) (page : ℕ) → ((q : ℕ × Block) → IsAmong zs q → q.0 ≡ page → ⊥) → logged_image (map image_of_page zs) page ≡ None
missing [] page none = refl
missing (x ∷ zs) page none = rw (ne_eqb x.0 page (none x (inl refl))) (missing zs page (λ q h. none q (inr h)))

-- ---- one page more

none_page : (q : ℕ) → None ≡ Some q → ⊥
none_page q e = absurd cc

value_of : (o : Option (List ℕ)) → is_some o ≡ true → (v : List ℕ) × (o ≡ Some v)
value_of None e = absurd (true≢false (sym e))
value_of (Some v) e = (v, refl)

page_of : (o : Option ℕ) → is_some o ≡ true → (p : ℕ) × (o ≡ Some p)
page_of None e = absurd (true≢false (sym e))
page_of (Some p) e = (p, refl)

-- a key with a page is another one than a key without
other_key : (t : PageTable) (j k : Key) (q : ℕ) → place_at t.places j ≡ None → place_at t.places k ≡ Some q → is_key j k ≡ false
other_key t j k q absent at = ⊎_elim
    (λ (same : is_key j k ≡ true). absurd (none_page q (sym (subst (λ (x : Key). place_at t.places x ≡ None) (same_key j k same) absent) ∙ at)))
    (λ e. e)
    (one_or_other (is_key j k))

-- a page that stood there does still
still_stands : (old new : PageTable) (j : Key) (v : List ℕ) (page : ℕ) (p : ℕ × Block) (i : Item) → place_at old.places j ≡ None → AddsAt old new j v page → StandsOnPage old p i → StandsOnPage new p i
still_stands old new j v page p i absent adds stands =
    let other = other_key old j (item_key i) p.0 absent stands.place in
    record {
      block = stands.block;
      place = adds.places (item_key i) ∙ ap (λ (b : Bool). cond b (Some page) (place_at old.places (item_key i))) other ∙ stands.place;
      record_is = adds.records (item_key i) ∙ ap (λ (b : Bool). cond b (Some v) (record_at old.records (item_key i))) other ∙ stands.record_is;
    }

module _ (blocks : List (ℕ × Block)) (old new : PageTable) (page : ℕ) (b : Block) (holds : HoldsTable blocks old) (free : is_page_free old.free page ≡ true) (puts : PutsPage old new page b) where
  stands_here : StandsOnPage new (page, b) puts.item
  stands_here = record {
    block = puts.reads;
    place = puts.adds.places (item_key puts.item) ∙ ap (λ (c : Bool). cond c (Some page) (place_at old.places (item_key puts.item))) (key_itself (item_key puts.item));
    record_is = puts.adds.records (item_key puts.item) ∙ ap (λ (c : Bool). cond c (Some (value puts.item)) (record_at old.records (item_key puts.item))) (key_itself (item_key puts.item));
  }

  still : (p : ℕ × Block) (j : Item) → StandsOnPage old p j → StandsOnPage new p j
  still p j stands = still_stands old new (item_key puts.item) (value puts.item) page p j puts.absent puts.adds stands

  pub holds_more : HoldsTable (blocks ++ (page, b) ∷ []) new
  holds_more = record {
    is_table = added_is_table old new (item_key puts.item) (value puts.item) page holds.is_table puts.absent free (free_inside old.free page free) puts.adds.records puts.adds.places puts.adds.free puts.adds.units;
    each = λ p among. ⊎_elim
        (λ (there : IsAmong blocks p). let s = holds.each p there in (s.0, still p s.0 s.1))
        (λ (here : p ≡ (page, b)). (puts.item, subst (λ (r : ℕ × Block). StandsOnPage new r puts.item) (sym here) stands_here))
        (among_end blocks (page, b) p among);
    from = λ k q at. ⊎_elim
        (λ (same : is_key (item_key puts.item) k ≡ true). ((page, b), among_last blocks (page, b), puts.item, stands_here, same_key (item_key puts.item) k same))
        (λ (other : is_key (item_key puts.item) k ≡ false).
        let was : place_at old.places k ≡ Some q = sym (puts.adds.places k ∙ ap (λ (c : Bool). cond c (Some page) (place_at old.places k)) other) ∙ at in
        let f = holds.from k q was in
        (f.0, among_left blocks ((page, b) ∷ []) f.0 f.1, f.2, still f.0 f.2 f.3, f.4))
        (one_or_other (is_key (item_key puts.item) k));
  }

-- ---- all pages

-- a page that is none of these is free
pub is_left : (blocks : List (ℕ × Block)) (t : PageTable) (page : ℕ) → HoldsTable blocks t → page < t.free.units → ((q : ℕ × Block) → IsAmong blocks q → q.0 ≡ page → ⊥) → is_page_free t.free page ≡ true
is_left blocks t page holds inside none = ⊎_elim
    (λ free. free)
    (λ (taken : is_page_free t.free page ≡ false).
    let o = holds.is_table.owned page inside taken in
    let f = holds.from o.0 page o.1 in
    absurd (none f.0 f.1 (same_Some f.0.0 page (sym (ap (place_at t.places) (sym f.4) ∙ f.3.place) ∙ o.1))))
    (one_or_other (is_page_free t.free page))

pub next_is_free : (pages i : ℕ) (blocks : List (ℕ × Block)) (d : ℕ × Block) (t : PageTable) → AreFilled pages blocks → i < length blocks → t.free.units ≡ pages → HoldsTable (take i blocks) t
    → is_page_free t.free (get_or blocks i d).0 ≡ true
next_is_free pages i blocks d t filled lt units holds =
    let inside : (get_or blocks i d).0 < pages = ltb-true (get_or blocks i d).0 pages (all_are (λ (p : ℕ × Block). nat_lt p.0 pages) blocks (get_or blocks i d) filled.inside (among_at blocks i d lt)) in
    is_left (take i blocks) t (get_or blocks i d).0 holds (omega (arith, inside, units)) (λ q h same. omega (arith, before 0 i blocks d filled.ascend lt q h, same))

-- a page whose key is there is the first twin
pub first_twin : (pages i : ℕ) (blocks : List (ℕ × Block)) (d : ℕ × Block) (t : PageTable) → AreFilled pages blocks → i < length blocks → HoldsTable (take i blocks) t → HasKey t (get_or blocks i d).1
    → IsFirstTwin blocks (get_or blocks i d).0
first_twin pages i blocks d t filled lt holds has =
    let p = page_of (place_at t.places (item_key has.item)) has.there in
    let f = holds.from (item_key has.item) p.0 p.1 in
    record {
      twin = record {
        earlier = f.0;
        later = get_or blocks i d;
        first = f.2;
        second = has.item;
        earlier_is = among_take i blocks f.0 f.1;
        later_is = among_at blocks i d lt;
        behind = before 0 i blocks d filled.ascend lt f.0 f.1;
        here = refl;
        reads_first = ap page_items f.3.block.bytes ∙ record_read f.2 f.3.block.is;
        reads_second = ap page_items has.reads.bytes ∙ record_read has.item has.reads.is;
        one_key = f.4;
      };
      least = λ q twin. ⊎_elim (λ le. le) (λ lt'. absurd (none_before q twin lt')) (at_least q);
    }
  where
    at_least : (q : ℕ) → ((get_or blocks i d).0 ≤ q) ⊎ (q < (get_or blocks i d).0)
    at_least q = ⊎_elim (λ less. inr less) (λ le. inl le) (cases_lt q (get_or blocks i d).0)

    one_item : (b : Bytes) (x y : Item) → page_items b ≡ Some (x ∷ []) → page_items b ≡ Some (y ∷ []) → x ≡ y
    one_item b x y e g = let h : Some (x ∷ []) ≡ Some (y ∷ []) = sym e ∙ g in cc

    none_before : (q : ℕ) → IsTwinPage blocks q → q < (get_or blocks i d).0 → ⊥
    none_before q twin less =
        let e = holds.each twin.earlier (are_before 0 i blocks d filled.ascend lt twin.earlier twin.earlier_is (omega (arith, twin.behind, twin.here, less))) in
        let l = holds.each twin.later (are_before 0 i blocks d filled.ascend lt twin.later twin.later_is (omega (arith, twin.here, less))) in
        let one = one_item twin.earlier.1.bytes e.0 twin.first (ap page_items e.1.block.bytes ∙ record_read e.0 e.1.block.is) twin.reads_first in
        let two = one_item twin.later.1.bytes l.0 twin.second (ap page_items l.1.block.bytes ∙ record_read l.0 l.1.block.is) twin.reads_second in
        let keys : item_key e.0 ≡ item_key l.0 = ap item_key one ∙ twin.one_key ∙ sym (ap item_key two) in
        let same : twin.earlier.0 ≡ twin.later.0 = same_Some twin.earlier.0 twin.later.0 (sym e.1.place ∙ ap (place_at t.places) keys ∙ l.1.place) in
        omega (arith, same, twin.behind)

-- the table of all pages is shown by them
pub is_table_of : (pages : ℕ) (blocks : List (ℕ × Block)) (t : PageTable) → AreFilled pages blocks → t.free.units ≡ pages → HoldsTable blocks t → IsTableOf pages blocks t
is_table_of pages blocks t filled units holds = record {
  is_table = holds.is_table;
  items = λ k v at.
      let p = page_of (place_at t.places k) (sym (holds.is_table.same k) ∙ ap is_some at) in
      let f = holds.from k p.0 p.1 in
      (f.2, record { is = f.3.block.is; key = f.4; value = same_Some (value f.2) v (sym f.3.record_is ∙ ap (record_at t.records) f.4 ∙ at) });
  shows = record {
    taken = λ k q at.
        let f = holds.from k q at in
        let here : f.0.0 ≡ q = same_Some f.0.0 q (sym f.3.place ∙ ap (place_at t.places) f.4 ∙ at) in
        ap (page_shown_by blocks) (sym here)
        ∙ ap (λ (o : Option Bytes). unwrap_or o (replicate block_size 0)) (found 0 blocks f.0 filled.ascend f.1)
        ∙ f.3.block.bytes
        ∙ sym (ap (block_of (item_key f.2)) f.3.record_is)
        ∙ ap (λ (j : Key). block_of j (record_at t.records j)) f.4;
    free = λ q free. ap (λ (o : Option Bytes). unwrap_or o (replicate block_size 0)) (missing blocks q (λ p h same.
        let s = holds.each p h in
        true≢false (sym free ∙ holds.is_table.taken (item_key s.0) q (s.1.place ∙ ap (λ (n : ℕ). Some n) same))));
  };
  units = units;
}

pub no_place : (o : Option ℕ) → is_some o ≡ false → o ≡ None
no_place None e = refl
no_place (Some p) e = absurd (true≢false e)

-- what is answered of the page at a place is the answer
pub twin_cause : (pages i : ℕ) (blocks : List (ℕ × Block)) (d : ℕ × Block) (t : PageTable) (e : LoadedError) → AreFilled pages blocks → i < length blocks → HoldsTable (take i blocks) t
    → MakesTwin t (get_or blocks i d).0 (get_or blocks i d).1 e → TwinCause blocks e
twin_cause pages i blocks d t (Twin page) filled lt holds makes = subst (λ (p : ℕ). IsFirstTwin blocks p) (sym makes.0) (first_twin pages i blocks d t filled lt holds makes.1)
twin_cause pages i blocks d t NoMemory filled lt holds makes = tt

module _ (pages : ℕ) (blocks : List (ℕ × Block)) (filled : AreFilled pages blocks) (t : PageTable) (of : IsTableOf pages blocks t) where
  -- an item of the pages has its page
  placed : (p : ℕ × Block) (i : Item) → IsAmong blocks p → page_items p.1.bytes ≡ Some (i ∷ []) → place_at t.places (item_key i) ≡ Some p.0
  placed p i among reads =
      let inside : p.0 < pages = ltb-true p.0 pages (all_are (λ (p : ℕ × Block). nat_lt p.0 pages) blocks p filled.inside among) in
      let here : page_shown_by blocks p.0 ≡ p.1.bytes = ap (λ (o : Option Bytes). unwrap_or o (replicate block_size 0)) (found 0 blocks p filled.ascend among) in
      (holds_read t (page_shown_by blocks) of.is_table of.shows of.items p.0 i (omega (arith, inside, of.units)) (ap page_items here ∙ reads)).place

  pub no_twin : (page : ℕ) → IsTwinPage blocks page → ⊥
  no_twin page twin =
      let same : twin.earlier.0 ≡ twin.later.0 = same_Some twin.earlier.0 twin.later.0
      (sym (placed twin.earlier twin.first twin.earlier_is twin.reads_first) ∙ ap (place_at t.places) twin.one_key ∙ placed twin.later twin.second twin.later_is twin.reads_second) in
      omega (arith, same, twin.behind)

pub has_no_table : (pages : ℕ) (blocks : List (ℕ × Block)) (e : LoadedError) → AreFilled pages blocks → TwinCause blocks e → HasNoTable pages blocks e
has_no_table pages blocks (Twin page) filled cause = λ t of. no_twin pages blocks filled t of page cause.twin
has_no_table pages blocks NoMemory filled cause = tt
