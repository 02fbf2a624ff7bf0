-- The homes and the copies of a group's items, chunk by chunk.
use Rattle.std.proofs.Common.{◌≡◌, ℕ, ◌+◌, ◌*◌, ◌<◌, ◌≤◌, ◌^◌, Bool, true, false, cond, eqb, leb, List, [], ◌∷◌, ◌++◌, map, filter, Option, Some, None, refl, sym, ap, subst, ◌∙◌, arith, inl, inr, ◌⊎◌}
use Rattle.std.specs.Prelude.{◌&&◌, not, flat_map}
use Rattle.std.specs.declared.cmp.Ordering.{Ordering}
use Rattle.std.specs.declared.cmp.Ordering.TheVariants.{Less, Equal, Greater}
use Rattle.std.specs.Ordering.{nat_cmp, is_lt, ordering_then}
use Rattle.std.specs.List.{AllByRecursion, list_all}
use Rattle.std.specs.Option.{is_some}
use Rattle.std.proofs.lemmas.Bool.{and_parts, and_from, cond_both, eqb-true, le-leb, leb-true, false_from_ne_true}
use Rattle.asm_formats.specs.Among.{IsAmong}
use Rattle.asm_formats.specs.Items.{FileHead, Item, Key, chunk_len, item_key, key_rank, is_item, is_same_key, chunk_item}
use Rattle.asm_formats.specs.Status.{ascends_from}
use Rattle.asm_formats.proofs.Among.{among_map, among_filter, filter_among}
use Rattle.asm_formats.proofs.RecordLists.{one_list}
use Rattle.catalog.specs.asm_placement.Tables.{head_of}
use Rattle.catalog.specs.asm_placement.Copies.{Copy, all_copies, file_copies, item_copies}
use Rattle.catalog.specs.asm_placement.Placed.{Placed, placed}
use Rattle.catalog.specs.asm_placement.Work.{keys_differ}
use Rattle.catalog.specs.asm_base.Records.{Ascend}
use Rattle.catalog.specs.file_directory.Files.{head_at}
use Rattle.catalog.specs.extent_map.Extents.{Chunked, IsNumbered, chunk_of_item, item_of_chunk}
use Rattle.catalog.specs.asm_base.Chunks.{Chunk, is_chunk_before}
use Rattle.catalog.proofs.extent_map.Laws.{chunk_entries as chunk_laws, table_numbered}
use Rattle.catalog.specs.catalog_tables.Tables.{AreTables, Tables}
use Rattle.catalog.specs.catalog_tables.Placing.{homes_of}
use Rattle.catalog.specs.catalog_tables.Items.{AreItemsOf, SayTables, chunk_copies}
use Rattle.catalog.proofs.catalog_tables.TableItems.{above_least, allowed, map_among, rank, ranks, said}
use Rattle.catalog_laws.proofs.ItemLaws.{chunk_entries, heads_are, homes_are, marks_are, stale_are}

-- ---- each is of the formats, and keys differ

all_from : (p : Item → Bool) (xs : List Item) → ((x : Item) → IsAmong xs x → p x ≡ true) → list_all p xs ≡ true
all_from p [] each = refl
all_from p (x ∷ xs) each = and_from (p x) (list_all p xs) (each x (inl refl)) (all_from p xs (λ y h. each y (inr h)))

same_rank : (j k : Key) → is_same_key j k ≡ true → key_rank j ≡ key_rank k
same_rank j k e =
    let p = and_parts (eqb j.kind k.kind) (eqb j.a k.a && eqb j.b k.b) e in
    let q = and_parts (eqb j.a k.a) (eqb j.b k.b) p.1 in
    let kind = eqb-true j.kind k.kind p.0 in
    let a = eqb-true j.a k.a q.0 in
    let b = eqb-true j.b k.b q.1 in
    λ i. (kind i * 2 ^ 32 + a i) * 2 ^ 32 + b i

keys_apart : (xs : List Item) (least : ℕ) → ascends_from least (ranks xs) ≡ true → keys_differ xs ≡ true
keys_apart [] least up = refl
keys_apart (x ∷ xs) least up =
    let rest = (and_parts (leb least (rank x)) (ascends_from (rank x + 1) (ranks xs)) up).1 in
    and_from (list_all (λ j. not (is_same_key (item_key x) (item_key j))) xs) (keys_differ xs)
    (all_from (λ j. not (is_same_key (item_key x) (item_key j))) xs (λ j h. ap not (false_from_ne_true (is_same_key (item_key x) (item_key j)) (λ e. omega (arith, above_least xs (rank x + 1) rest j h, same_rank (item_key x) (item_key j) e)))))
    (keys_apart xs (rank x + 1) rest)

-- ---- the chunks among the items are those of the table, in its order

abbrev is_chunk : Item → Bool
is_chunk i = is_some (chunk_of_item i)

lower : (ns : List ℕ) (m least : ℕ) → least ≤ m → ascends_from m ns ≡ true → ascends_from least ns ≡ true
lower [] m least le up = refl
lower (n ∷ ns) m least le up =
    let p = and_parts (leb m n) (ascends_from (n + 1) ns) up in
    and_from (leb least n) (ascends_from (n + 1) ns) (le-leb least n (omega (arith, le, leb-true m n p.0))) p.1

kept_up : (p : Item → Bool) (xs : List Item) (least : ℕ) → ascends_from least (ranks xs) ≡ true → ascends_from least (ranks (filter p xs)) ≡ true
kept_up p [] least up = refl
kept_up p (x ∷ xs) least up =
    let q = and_parts (leb least (rank x)) (ascends_from (rank x + 1) (ranks xs)) up in
    let rest = kept_up p xs (rank x + 1) q.1 in
    cond_both (p x) (x ∷ filter p xs) (filter p xs) (λ (l : List Item). ascends_from least (ranks l) ≡ true)
    (λ yes. and_from (leb least (rank x)) (ascends_from (rank x + 1) (ranks (filter p xs))) q.0 rest)
    (λ no. lower (ranks (filter p xs)) (rank x + 1) least (omega (arith, leb-true least (rank x) q.0)) rest)

less_number : (m n : ℕ) → nat_cmp m n ≡ Less → m < n
less_number m n e = grind (arith, e)

same_number : (m n : ℕ) → nat_cmp m n ≡ Equal → m ≡ n
same_number m n e = grind (arith, e)

less_is : (o : Ordering) → is_lt o ≡ true → o ≡ Less
less_is Less e = refl
less_is Equal e = absurd cc
less_is Greater e = absurd cc

first_or_second : (x y : Chunk) → is_chunk_before x y ≡ true → (x.0 < y.0) ⊎ ((x.0 ≡ y.0) × (x.1 < y.1))
first_or_second x y e = by (nat_cmp x.0 y.0) refl e where
  by : (o : Ordering) → nat_cmp x.0 y.0 ≡ o → is_lt (ordering_then o (nat_cmp x.1 y.1)) ≡ true → (x.0 < y.0) ⊎ ((x.0 ≡ y.0) × (x.1 < y.1))
  by Less is e = inl (less_number x.0 y.0 is)
  by Equal is e = inr (same_number x.0 y.0 is, less_number x.1 y.1 (less_is (nat_cmp x.1 y.1) e))
  by Greater is e = absurd cc

rank_less : (x y : Chunked) → is_chunk_before x.0 y.0 ≡ true → IsNumbered x → IsNumbered y → rank (item_of_chunk x) < rank (item_of_chunk y)
rank_less x y before small few = elim (first_or_second x.0 y.0 before) [
  | inl file ↦ omega (arith, file, small)
  | inr chunk ↦ omega (arith, chunk.0, chunk.1)
]

entries_up : (x : Chunked) (es : List Chunked) (least : ℕ) → Ascend is_chunk_before (x ∷ es) → AllByRecursion IsNumbered (x ∷ es) → least ≤ rank (item_of_chunk x) → ascends_from least (ranks (map item_of_chunk (x ∷ es))) ≡ true
entries_up x [] least up few le = and_from (leb least (rank (item_of_chunk x))) true (le-leb least (rank (item_of_chunk x)) le) refl
entries_up x (y ∷ es) least up few le =
    let less : rank (item_of_chunk x) < rank (item_of_chunk y) = rank_less x y up.0 few.0 few.1.0 in
    and_from (leb least (rank (item_of_chunk x))) (ascends_from (rank (item_of_chunk x) + 1) (ranks (map item_of_chunk (y ∷ es)))) (le-leb least (rank (item_of_chunk x)) le)
    (entries_up y es (rank (item_of_chunk x) + 1) up.1 few.1 (omega (arith, less)))

table_up : (es : List Chunked) → Ascend is_chunk_before es → AllByRecursion IsNumbered es → ascends_from 0 (ranks (map item_of_chunk es)) ≡ true
table_up [] up few = refl
table_up (x ∷ es) up few = entries_up x es 0 up few (omega arith)

passes : (p : Item → Bool) (xs : List Item) (x : Item) → IsAmong (filter p xs) x → p x ≡ true
passes p [] x h = absurd h
passes p (y ∷ xs) x h = by (p y) refl h (passes p xs x) where
  by : (b : Bool) → p y ≡ b → IsAmong (cond b (y ∷ filter p xs) (filter p xs)) x → (IsAmong (filter p xs) x → p x ≡ true) → p x ≡ true
  by true is (inl e) rest = ap p e ∙ is
  by true is (inr k) rest = rest k
  by false is k rest = rest k

the_entry : (i : Item) → is_chunk i ≡ true → (x : Chunked) × (item_of_chunk x ≡ i)
the_entry i e = by (chunk_of_item i) refl e where
  by : (o : Option Chunked) → chunk_of_item i ≡ o → is_some o ≡ true → (x : Chunked) × (item_of_chunk x ≡ i)
  by None is e = absurd cc
  by (Some x) is e = (x, chunk_laws.0.there i x is)

module _ (t : Tables) (items : List Item) (a : AreTables t) (is : AreItemsOf t items) where
  chunks_are : filter is_chunk items ≡ map item_of_chunk t.extents
  chunks_are = one_list (filter is_chunk items) (map item_of_chunk t.extents) 0 (kept_up is_chunk items 0 is.in_order) (table_up t.extents a.extents.0.0 (table_numbered t.extents a.extents))
      (λ i h.
      let x = the_entry i (passes is_chunk items i h) in
      let there : IsAmong items (item_of_chunk x.0) = subst (λ (j : Item). IsAmong items j) (sym x.1) (among_filter is_chunk items i h) in
      subst (λ (j : Item). IsAmong (map item_of_chunk t.extents) j) x.1 (among_map item_of_chunk t.extents x.0 ((chunk_entries t items a is).back x.0 there)))
      (λ i h.
      let m = map_among item_of_chunk t.extents i h in
      let there : IsAmong items (item_of_chunk m.0) = (chunk_entries t items a is).into m.0 m.1 in
      subst (λ (j : Item). IsAmong (filter is_chunk items) j) (sym m.2) (filter_among is_chunk items (item_of_chunk m.0) refl there))

-- ---- what lists of items say by their chunks alone

placed_kept : (step : ℕ) (items : List Item) → placed step (filter is_chunk items) ≡ placed step items
unfolding placed
placed_kept step [] = refl
placed_kept step (chunk_item f c homes ∷ items) = ap (λ (ps : List Placed). homes_of step ((f, c), homes) ++ ps) (placed_kept step items)
placed_kept step (i ∷ items) = placed_kept step items

placed_entries : (step : ℕ) (es : List Chunked) → placed step (map item_of_chunk es) ≡ flat_map (homes_of step) es
unfolding placed
placed_entries step [] = refl
placed_entries step (x ∷ es) = ap (λ (ps : List Placed). homes_of step x ++ ps) (placed_entries step es)

copies_kept : (look : ℕ → Option FileHead) (items : List Item) → flat_map (item_copies look) (filter is_chunk items) ≡ flat_map (item_copies look) items
copies_kept look [] = refl
copies_kept look (chunk_item f c homes ∷ items) = ap (λ (cs : List Copy). item_copies look (chunk_item f c homes) ++ cs) (copies_kept look items)
copies_kept look (i ∷ items) = copies_kept look items

copies_entries : (t : Tables) (look : ℕ → Option FileHead) (es : List Chunked) → ((f : ℕ) → look f ≡ head_at t.files f) → flat_map (item_copies look) (map item_of_chunk es) ≡ flat_map (chunk_copies t) es
copies_entries t look [] same = refl
copies_entries t look (x ∷ es) same =
    ap (λ (o : Option FileHead). file_copies x.0.0 (x.0.1 * chunk_len) x.1 o ++ flat_map (item_copies look) (map item_of_chunk es)) (same x.0.0)
    ∙ ap (λ (cs : List Copy). chunk_copies t x ++ cs) (copies_entries t look es same)

pub items_say : (t : Tables) (items : List Item) → AreTables t → AreItemsOf t items → SayTables t items
unfolding all_copies
items_say t items a is = record {
  allowed = all_from is_item items (λ i h. allowed t i a (said t (item_key i) i (is.to_table i h)).0);
  keys = keys_apart items 0 is.in_order;
  heads = heads_are t items a is;
  homes = homes_are t items a is;
  marks = marks_are t items a is;
  stale = stale_are t items a is;
  placed = λ step. sym (placed_kept step items) ∙ ap (placed step) (chunks_are t items a is) ∙ placed_entries step t.extents;
  copies = sym (copies_kept (head_of items) items) ∙ ap (flat_map (item_copies (head_of items))) (chunks_are t items a is) ∙ copies_entries t (head_of items) t.extents (heads_are t items a is);
}
