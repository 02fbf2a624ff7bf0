-- Blocks are counted by the tables as by the pages on which their records stand.
use Rattle.std.proofs.Common.{◌≡◌, ◌≤◌, ◌+◌, ◌-◌, ℕ, Bool, true, false, List, [], ◌∷◌, length, map, Option, Some, None, refl, sym, ap, ◌∙◌, arith, inl, inr, ◌⊎◌, length-append}
use Rattle.std.specs.Prelude.{◌&&◌, not}
use Rattle.std.specs.List.Sorted.{IsStrictlySortedBy}
use Rattle.std.specs.Option.{is_some, option_map}
use Rattle.std.specs.Ordering.{is_eq}
use Rattle.std.specs.declared.cmp.Ordering.TheVariants.{Less}
use Rattle.std.proofs.lemmas.Bool.{true≢false}
use Rattle.std.proofs.lemmas.List.{length-map}
use Rattle.asm_formats.specs.Among.{IsAmong}
use Rattle.asm_formats.specs.Items.{Item, Key, Pending, item_key}
use Rattle.asm_formats.specs.Values.{value}
use Rattle.catalog.specs.asm_base.Records.{DirectoryRecord, key_cmp}
use Rattle.catalog.specs.page_map.Changes.{is_put}
use Rattle.catalog.specs.page_map.Listing.{key_of_place}
use Rattle.catalog.specs.page_map.Tables.{PageTable, has_kept_pages, new_in, one_if, pending_key, place_at, rebalance_key, room, used_pages}
use Rattle.catalog.proofs.page_map.Keys.{key_itself}
use Rattle.catalog.specs.file_directory.Files as files
use Rattle.catalog.specs.extent_map.Extents as extents
use Rattle.catalog.specs.alias_tree.Nodes as nodes
use Rattle.catalog.specs.staleness_directory.Marks as stale
use Rattle.catalog.specs.operations_directory.Operations as operations
use Rattle.catalog_laws.specs.Blocks.{ArePaged, BlocksAreCounted, PlansHaveRoom}
use Rattle.catalog.specs.disk_directory.Disks as disks
use Rattle.catalog.specs.catalog_tables.Rules.{blocks_used, new_records}
use Rattle.catalog.specs.catalog_tables.Tables.{Tables, item_at, records_of}
use Rattle.catalog_laws.proofs.HavingItems.{in_parts, joined, parts, two_items}
use Rattle.catalog.proofs.catalog_tables.TableItems.{each_of, key_total, keys_exact, map_among, said, some_found}

-- ---- a list without one of its elements

record IsTakenOut {X : Type 0} (xs : List X) (x : X) : Type 0 where
  rest : List X
  fewer : length xs ≡ length rest + 1
  left : (y : X) → IsAmong xs y → (y ≡ x) ⊎ IsAmong rest y

out_first : {X : Type 0} (y : X) (xs : List X) (x : X) → x ≡ y → IsTakenOut (y ∷ xs) x
out_first y xs x e = record {
  rest = xs;
  fewer = omega arith;
  left = λ z h. elim h [ inl s ↦ inl (s ∙ sym e) | inr l ↦ inr l ];
}

out_later : {X : Type 0} (y : X) (xs : List X) (x : X) → IsTakenOut xs x → IsTakenOut (y ∷ xs) x
out_later y xs x out = record {
  rest = y ∷ out.rest;
  fewer = (let fewer = out.fewer in omega (arith, fewer));
  left = λ z h. elim h [
    | inl s ↦ inr (inl s)
    | inr l ↦ elim (out.left z l) [ inl s ↦ inl s | inr m ↦ inr (inr m) ]
  ];
}

take_out : {X : Type 0} (xs : List X) (x : X) → IsAmong xs x → IsTakenOut xs x
take_out [] x h = absurd h
take_out (y ∷ xs) x (inl e) = out_first y xs x e
take_out (y ∷ xs) x (inr h) = out_later y xs x (take_out xs x h)

-- ---- keys in order are no more than items that have them

differ : (k j : Key) → key_cmp k j ≡ Less → j ≡ k → ⊥
differ k j less same = true≢false (sym (key_itself k) ∙ (ap (λ (x : Key). is_eq (key_cmp k x)) (sym same) ∙ ap is_eq less))

no_more : (ks : List Key) (is : List Item) → IsStrictlySortedBy key_cmp ks → ((k : Key) → IsAmong ks k → (i : Item) × IsAmong is i × (item_key i ≡ k)) → length ks ≤ length is
unfolding IsStrictlySortedBy
no_more [] is up has = omega arith
no_more (k ∷ ks) is up has =
    let first = has k (inl refl) in
    let out = take_out is first.0 first.1 in
    let others : (j : Key) → IsAmong ks j → (i : Item) × IsAmong out.rest i × (item_key i ≡ j) = λ j h.
    let x = has j (inr h) in
    elim (out.left x.0 x.1) [
      | inl same ↦ absurd (differ k j (each_of (λ (y : Key). key_cmp k y ≡ Less) ks j up.0 h) (sym x.2 ∙ (ap item_key same ∙ first.2)))
      | inr l ↦ (x.0, l, x.2)
    ] in
    let rest = no_more ks out.rest up.1 others in
    let fewer = out.fewer in
    omega (arith, rest, fewer)

-- ---- how many items the tables have

joined_size : (p : List Item) (ps : List (List Item)) → length (joined (p ∷ ps)) ≡ length p + length (joined ps)
unfolding joined
joined_size p ps = length-append p (joined ps)

joined_none : length (joined []) ≡ 0
unfolding joined
joined_none = refl

operations_size : (o : operations.Operations) → length (operations.items_of o) ≡ one_if (is_some o.rebalance) + one_if (is_some o.pending)
operations_size o = by o.rebalance o.pending where
  by : (r : Option ℕ) (p : Option Pending) → length (operations.items_of (record { rebalance = r; pending = p })) ≡ one_if (is_some r) + one_if (is_some p)
  by None None = refl
  by None (Some p) = refl
  by (Some r) None = refl
  by (Some r) (Some p) = refl

items_size : (t : Tables) → length (joined (parts t)) ≡ blocks_used t + (one_if (is_some t.operations.rebalance) + one_if (is_some t.operations.pending))
items_size t =
    let fs = map files.item_of_file_head t.files in
    let xs = map extents.item_of_chunk t.extents in
    let ds = map disks.item_of_disk t.disks in
    let os = operations.items_of t.operations in
    let ns = map nodes.item_of_node t.nodes in
    let ms = map stale.item_of_marks t.stale in
    let two = two_items t in
    let a = joined_size fs (xs ∷ ds ∷ os ∷ two ∷ ns ∷ ms ∷ []) in
    let b = joined_size xs (ds ∷ os ∷ two ∷ ns ∷ ms ∷ []) in
    let c = joined_size ds (os ∷ two ∷ ns ∷ ms ∷ []) in
    let d = joined_size os (two ∷ ns ∷ ms ∷ []) in
    let e = joined_size two (ns ∷ ms ∷ []) in
    let f = joined_size ns (ms ∷ []) in
    let g = joined_size ms [] in
    let h = joined_none in
    let o = operations_size t.operations in
    omega (arith, a, b, c, d, e, f, g, h, o, length-map t.files files.item_of_file_head, length-map t.extents extents.item_of_chunk, length-map t.disks disks.item_of_disk, length-map t.nodes nodes.item_of_node, length-map t.stale stale.item_of_marks)

-- ---- the pages

some_of : {X : Type 0} (o : Option X) → is_some o ≡ true → (x : X) × (o ≡ Some x)
some_of None e = absurd cc
some_of (Some x) e = (x, refl)

of_map : {A B : Type 0} (f : A → B) (o : Option A) → is_some (option_map f o) ≡ is_some o
of_map f None = refl
of_map f (Some x) = refl

module _ (t : Tables) (pages : PageTable) (are : ArePaged t pages) where
  -- a key has a page where the tables say something at it
  has_page : (k : Key) → is_some (place_at pages.places k) ≡ is_some (records_of t k)
  has_page k = sym (are.is_table.same k) ∙ ap (λ (o : Option (List ℕ)). is_some o) (sym (are.records k))

  rebalance_page : is_some (place_at pages.places rebalance_key) ≡ is_some t.operations.rebalance
  unfolding item_at
  rebalance_page = has_page rebalance_key ∙ (of_map value _ ∙ of_map _ t.operations.rebalance)

  pending_page : is_some (place_at pages.places pending_key) ≡ is_some t.operations.pending
  unfolding item_at
  pending_page = has_page pending_key ∙ (of_map value _ ∙ of_map _ t.operations.pending)

  item_of_key : (k : Key) → IsAmong (map key_of_place pages.places) k → (i : Item) × IsAmong (joined (parts t)) i × (item_key i ≡ k)
  item_of_key k h =
      let x = map_among key_of_place pages.places k h in
      let found = some_found key_cmp key_total keys_exact pages.places x.0.0 x.0.1 x.1 in
      let page : is_some (place_at pages.places k) ≡ true = ap (λ (j : Key). is_some (place_at pages.places j)) x.2 ∙ ap (λ (o : Option ℕ). is_some o) found.1 in
      let i = some_of (item_at t k) (sym (of_map value (item_at t k)) ∙ (sym (has_page k) ∙ page)) in
      let s = said t k i.0 i.1 in
      (i.0, in_parts t i.0 s.0, s.1)

  counted : used_pages pages ≤ blocks_used t
  counted =
      let few = no_more (map key_of_place pages.places) (joined (parts t)) are.ordered item_of_key in
      let places = length-map pages.places key_of_place in
      let size = items_size t in
      let first = ap (λ (b : Bool). one_if b) rebalance_page in
      let second = ap (λ (b : Bool). one_if b) pending_page in
      omega (arith, few, places, size, first, second)

  new_counted : (put : List DirectoryRecord) → new_in pages put ≡ new_records t put
  new_counted [] = refl
  new_counted (p ∷ ps) =
      let rest = new_counted ps in
      let first = ap (λ (b : Bool). one_if ((not (has_kept_pages p.0) && not b) && not (is_put ps p.0))) (has_page p.0) in
      omega (arith, rest, first)

pub blocks_are_counted : BlocksAreCounted
blocks_are_counted = record { used = λ t pages are. counted t pages are; new = λ t pages put are. new_counted t pages are put }

fits : (new used blocks units : ℕ) → used ≤ blocks → new + blocks + 2 ≤ units → new ≤ units - 2 - used
fits new used blocks units few room = omega arith

pub plans_have_room : PlansHaveRoom
plans_have_room c pages put gone u are units plan =
    let few = counted c.tables pages are in
    let new = new_counted c.tables pages are put in
    let room = plan.room in
    fits (new_in pages put) (used_pages pages) (blocks_used c.tables) pages.free.units few (omega (arith, new, room, units))
