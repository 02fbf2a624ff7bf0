-- Each table's items, put in order one after the other, are the items of the tables.
use Rattle.std.proofs.Common.{◌≡◌, ℕ, ◌+◌, ◌*◌, ◌<◌, ◌≤◌, ◌^◌, true, cond, List, [], ◌∷◌, ◌++◌, length, map, Some, refl, sym, ap, subst, ◌∙◌, arith, inl, inr, ◌⊎◌}
use Rattle.std.specs.Prelude.{◌==◌, nat_le, nat_lt, if◌then◌else◌}
use Rattle.std.proofs.lemmas.Bool.{and_parts, and_from, cond_both, eqb-true, eqb-false, le-leb, ltb-false, ltb-true}
use Rattle.asm_formats.specs.Among.{IsAmong}
use Rattle.asm_formats.specs.Items.{Item, Key, item_key, key_rank, is_item, settings_item, templates_item}
use Rattle.asm_formats.specs.Records.{most_value, is_frame}
use Rattle.asm_formats.specs.Status.{ascends_from}
use Rattle.asm_formats.specs.Values.{value}
use Rattle.asm_formats.proofs.Among.{among_map}
use Rattle.asm_formats.proofs.RecordLists.{one_list}
use Rattle.asm_formats.proofs.RecordReading.{item_frame}
use Rattle.catalog.proofs.asm_base.Exact.{some_is}
use Rattle.catalog.specs.file_directory.Files as files
use Rattle.catalog.specs.extent_map.Extents as extents
use Rattle.catalog.specs.alias_tree.Nodes as nodes
use Rattle.catalog.specs.staleness_directory.Marks as stale
use Rattle.catalog.specs.operations_directory.Operations as operations
use Rattle.catalog.specs.disk_directory.Disks as disks
use Rattle.catalog.specs.catalog_tables.Tables.{AreTables, Tables, item_at}
use Rattle.catalog.specs.catalog_tables.Items.{AreItemsOf}
use Rattle.catalog.proofs.catalog_tables.TableItems.{IsOf, a_file, a_chunk, a_disk, an_operation, the_templates, a_node, the_settings, marks, allowed, append_among, left_among, map_among, of_two, rank, ranks, right_among, said, says}

-- ---- items put in order

-- the items and this one at its place; the same items where one of its key is there
put_in : Item → List Item → List Item
put_in i [] = i ∷ []
put_in i (j ∷ js) = if nat_lt (rank i) (rank j) then i ∷ j ∷ js else if rank i == rank j then j ∷ js else j ∷ put_in i js

record HasPut (i : Item) (js ks : List Item) : Type 0 where
  back : (k : Item) → IsAmong ks k → (k ≡ i) ⊎ IsAmong js k
  old : (k : Item) → IsAmong js k → IsAmong ks k
  new : (k : Item) × IsAmong ks k × (rank k ≡ rank i)
  in_order : (least : ℕ) → least ≤ rank i → ascends_from least (ranks js) ≡ true → ascends_from least (ranks ks) ≡ true

alone : (i : Item) → HasPut i [] (i ∷ [])
alone i = record {
  back = λ k h. h;
  old = λ k h. absurd h;
  new = (i, inl refl, refl);
  in_order = λ least le up. and_from (nat_le least (rank i)) true (le-leb least (rank i) le) refl;
}

in_front : (i j : Item) (js : List Item) → rank i < rank j → HasPut i (j ∷ js) (i ∷ j ∷ js)
in_front i j js less = record {
  back = λ k h. h;
  old = λ k h. inr h;
  new = (i, inl refl, refl);
  in_order = λ least le up.
      let p = and_parts (nat_le least (rank j)) (ascends_from (rank j + 1) (ranks js)) up in
      and_from (nat_le least (rank i)) (ascends_from (rank i + 1) (ranks (j ∷ js))) (le-leb least (rank i) le)
      (and_from (nat_le (rank i + 1) (rank j)) (ascends_from (rank j + 1) (ranks js)) (le-leb (rank i + 1) (rank j) (omega (arith, less))) p.1);
}

is_there : (i j : Item) (js : List Item) → rank i ≡ rank j → HasPut i (j ∷ js) (j ∷ js)
is_there i j js same = record { back = λ k h. inr h; old = λ k h. h; new = (j, inl refl, sym same); in_order = λ least le up. up }

behind : (i j : Item) (js ks : List Item) → rank j < rank i → HasPut i js ks → HasPut i (j ∷ js) (j ∷ ks)
behind i j js ks less has = record {
  back = λ k h. elim h [
    | inl e ↦ inr (inl e)
    | inr l ↦ elim (has.back k l) [ inl e ↦ inl e | inr m ↦ inr (inr m) ]
  ];
  old = λ k h. elim h [ inl e ↦ inl e | inr l ↦ inr (has.old k l) ];
  new = (has.new.0, inr has.new.1, has.new.2);
  in_order = λ least le up.
      let p = and_parts (nat_le least (rank j)) (ascends_from (rank j + 1) (ranks js)) up in
      and_from (nat_le least (rank j)) (ascends_from (rank j + 1) (ranks ks)) p.0 (has.in_order (rank j + 1) (omega (arith, less)) p.1);
}

put : (i : Item) (js : List Item) → HasPut i js (put_in i js)
unfolding put_in
put i [] = alone i
put i (j ∷ js) = cond_both (nat_lt (rank i) (rank j)) (i ∷ j ∷ js) (cond (rank i == rank j) (j ∷ js) (j ∷ put_in i js)) (HasPut i (j ∷ js))
    (λ below. in_front i j js (ltb-true (rank i) (rank j) below))
    (λ above. cond_both (rank i == rank j) (j ∷ js) (j ∷ put_in i js) (HasPut i (j ∷ js))
    (λ same. is_there i j js (eqb-true (rank i) (rank j) same))
    (λ differ. behind i j js (put_in i js) (omega (arith, ltb-false (rank i) (rank j) above, eqb-false (rank i) (rank j) differ)) (put i js)))

sorted : List Item → List Item
sorted [] = []
sorted (i ∷ is) = put_in i (sorted is)

record AreSorted (xs ys : List Item) : Type 0 where
  in_order : ascends_from 0 (ranks ys) ≡ true
  back : (i : Item) → IsAmong ys i → IsAmong xs i
  there : (i : Item) → IsAmong xs i → (k : Item) × IsAmong ys k × (rank k ≡ rank i)

sort_more : (x : Item) (xs ys zs : List Item) → AreSorted xs ys → HasPut x ys zs → AreSorted (x ∷ xs) zs
sort_more x xs ys zs are has = record {
  in_order = has.in_order 0 (omega arith) are.in_order;
  back = λ i h. elim (has.back i h) [ inl e ↦ inl e | inr l ↦ inr (are.back i l) ];
  there = λ i h. elim h [
    | inl e ↦ (has.new.0, has.new.1, has.new.2 ∙ ap rank (sym e))
    | inr l ↦ let k = are.there i l in (k.0, has.old k.0 k.1, k.2)
  ];
}

sort : (xs : List Item) → AreSorted xs (sorted xs)
unfolding sorted
sort [] = record { in_order = refl; back = λ i h. absurd h; there = λ i h. absurd h }
sort (x ∷ xs) = sort_more x xs (sorted xs) (put_in x (sorted xs)) (sort xs) (put x (sorted xs))

-- ---- no two items of the tables have one place in the order

record IsSmall (k : Key) : Type 0 where
  a : k.a < 2 ^ 32
  b : k.b < 2 ^ 32

small_key : (i : Item) → is_item i ≡ true → IsSmall (item_key i)
unfolding is_frame
small_key i is =
    let p = and_parts (nat_lt (item_key i).kind (2 ^ 16)) _ (item_frame i is) in
    let q = and_parts (nat_lt (item_key i).a (2 ^ 32)) _ p.1 in
    let r = and_parts (nat_lt (item_key i).b (2 ^ 32)) (nat_le (length (value i)) most_value) q.1 in
    record { a = ltb-true (item_key i).a (2 ^ 32) q.0; b = ltb-true (item_key i).b (2 ^ 32) r.0 }

digits : (x y b c : ℕ) → b < 2 ^ 32 → c < 2 ^ 32 → x * 2 ^ 32 + b ≡ y * 2 ^ 32 + c → (x ≡ y) × (b ≡ c)
digits x y b c less below e = (omega arith, omega arith)

same_key : (j k : Key) → IsSmall j → IsSmall k → key_rank j ≡ key_rank k → j ≡ k
same_key j k small few e =
    let p = digits (j.kind * 2 ^ 32 + j.a) (k.kind * 2 ^ 32 + k.a) j.b k.b small.b few.b e in
    let q = digits j.kind k.kind j.a k.a small.a few.a p.0 in
    let kind = q.0 in
    let a = q.1 in
    let b = p.1 in
    λ i. record { kind = kind i; a = a i; b = b i }

one_of_rank : (t : Tables) (i j : Item) → AreTables t → IsOf t i → IsOf t j → rank i ≡ rank j → i ≡ j
one_of_rank t i j are o p e =
    let same = same_key (item_key i) (item_key j) (small_key i (allowed t i are o)) (small_key j (allowed t j are p)) e in
    some_is i j (sym (says t i are o) ∙ ap (item_at t) same ∙ says t j are p)

-- ---- all items of the tables, table by table

abbrev pub two_items : Tables → List Item
two_items t = templates_item t.templates.templates ∷ settings_item t.templates.settings ∷ []

-- an item of a table's entries is one of the tables
of_part : {X : Type 0} (t : Tables) (item_of : X → Item) (xs : List X) (i : Item) → ((x : X) → IsAmong xs x → i ≡ item_of x → IsOf t i) → IsAmong (map item_of xs) i → IsOf t i
of_part t item_of xs i is h = let m = map_among item_of xs i h in is m.0 m.1 m.2

in_part : {X : Type 0} (item_of : X → Item) (xs : List X) (i : Item) (x : X) → IsAmong xs x → i ≡ item_of x → IsAmong (map item_of xs) i
in_part item_of xs i x h e = subst (λ (j : Item). IsAmong (map item_of xs) j) (sym e) (among_map item_of xs x h)

unfoldable pub joined : List (List Item) → List Item
joined [] = []
joined (p ∷ ps) = p ++ joined ps

joined_back : (ps : List (List Item)) (i : Item) → IsAmong (joined ps) i → (p : List Item) × IsAmong ps p × IsAmong p i
unfolding joined
joined_back [] i h = absurd h
joined_back (p ∷ ps) i h = elim (append_among p (joined ps) i h) [
  | inl l ↦ (p, inl refl, l)
  | inr r ↦ let q = joined_back ps i r in (q.0, inr q.1, q.2)
]

joined_in : (ps : List (List Item)) (p : List Item) (i : Item) → IsAmong ps p → IsAmong p i → IsAmong (joined ps) i
unfolding joined
joined_in [] p i h among = absurd h
joined_in (q ∷ ps) p i (inl e) among = left_among q (joined ps) i (subst (λ (l : List Item). IsAmong l i) e among)
joined_in (q ∷ ps) p i (inr h) among = right_among q (joined ps) i (joined_in ps p i h among)

abbrev pub parts : Tables → List (List Item)
parts t = map files.item_of_file_head t.files ∷ map extents.item_of_chunk t.extents ∷ map disks.item_of_disk t.disks ∷ operations.items_of t.operations ∷ two_items t ∷ map nodes.item_of_node t.nodes ∷ map stale.item_of_marks t.stale ∷ []

pub in_parts : (t : Tables) (i : Item) → IsOf t i → IsAmong (joined (parts t)) i
in_parts t i (a_file x h e) = joined_in (parts t) (map files.item_of_file_head t.files) i (inl refl) (in_part files.item_of_file_head t.files i x h e)
in_parts t i (a_chunk x h e) = joined_in (parts t) (map extents.item_of_chunk t.extents) i (inr (inl refl)) (in_part extents.item_of_chunk t.extents i x h e)
in_parts t i (a_disk x h e) = joined_in (parts t) (map disks.item_of_disk t.disks) i (inr (inr (inl refl))) (in_part disks.item_of_disk t.disks i x h e)
in_parts t i (an_operation h) = joined_in (parts t) (operations.items_of t.operations) i (inr (inr (inr (inl refl)))) h
in_parts t i (the_templates e) = joined_in (parts t) (two_items t) i (inr (inr (inr (inr (inl refl))))) (inl e)
in_parts t i (a_node x h e) = joined_in (parts t) (map nodes.item_of_node t.nodes) i (inr (inr (inr (inr (inr (inl refl)))))) (in_part nodes.item_of_node t.nodes i x h e)
in_parts t i (the_settings e) = joined_in (parts t) (two_items t) i (inr (inr (inr (inr (inl refl))))) (inr (inl e))
in_parts t i (marks x h e) = joined_in (parts t) (map stale.item_of_marks t.stale) i (inr (inr (inr (inr (inr (inr (inl refl))))))) (in_part stale.item_of_marks t.stale i x h e)

module _ (t : Tables) (p : List Item) (i : Item) (among : IsAmong p i) where
  here : (q : List Item) → p ≡ q → IsAmong q i
  here q e = subst (λ (l : List Item). IsAmong l i) e among

  of_parts : IsAmong (parts t) p → IsOf t i
  of_parts (inl e) = of_part t files.item_of_file_head t.files i (λ x h is. a_file x h is) (here (map files.item_of_file_head t.files) e)
  of_parts (inr (inl e)) = of_part t extents.item_of_chunk t.extents i (λ x h is. a_chunk x h is) (here (map extents.item_of_chunk t.extents) e)
  of_parts (inr (inr (inl e))) = of_part t disks.item_of_disk t.disks i (λ x h is. a_disk x h is) (here (map disks.item_of_disk t.disks) e)
  of_parts (inr (inr (inr (inl e)))) = an_operation (here (operations.items_of t.operations) e)
  of_parts (inr (inr (inr (inr (inl e))))) = of_two t i (here (two_items t) e)
  of_parts (inr (inr (inr (inr (inr (inl e)))))) = of_part t nodes.item_of_node t.nodes i (λ x h is. a_node x h is) (here (map nodes.item_of_node t.nodes) e)
  of_parts (inr (inr (inr (inr (inr (inr (inl e))))))) = of_part t stale.item_of_marks t.stale i (λ x h is. marks x h is) (here (map stale.item_of_marks t.stale) e)
  of_parts (inr (inr (inr (inr (inr (inr (inr h))))))) = absurd h

-- ---- the items of the tables

module _ (t : Tables) (are : AreTables t) where
  items : List Item
  items = sorted (joined (parts t))

  their : AreSorted (joined (parts t)) items
  unfolding items
  their = sort (joined (parts t))

  of_tables : (i : Item) → IsAmong items i → IsOf t i
  of_tables i h = let p = joined_back (parts t) i (their.back i h) in of_parts t p.0 i p.2 p.1

  from_table : (k : Key) (i : Item) → item_at t k ≡ Some i → IsAmong items i
  from_table k i e =
      let o = (said t k i e).0 in
      let j = their.there i (in_parts t i o) in
      subst (λ (x : Item). IsAmong items x) (one_of_rank t j.0 i are (of_tables j.0 j.1) o j.2) j.1

  pub have_items : (all : List Item) × AreItemsOf t all
  have_items = (items, record { in_order = their.in_order; from_table = from_table; to_table = λ i h. says t i are (of_tables i h) })

pub items_are_one : (t : Tables) (a b : List Item) → AreItemsOf t a → AreItemsOf t b → a ≡ b
items_are_one t a b are is = one_list a b 0 are.in_order is.in_order (λ i h. is.from_table (item_key i) i (are.to_table i h)) (λ i h. are.from_table (item_key i) i (is.to_table i h))
