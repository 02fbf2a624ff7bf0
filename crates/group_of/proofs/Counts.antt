-- How many items there are.
use Rattle.std.proofs.Common.{◌≡◌, ◌⊎◌, ℕ, suc, ◌+◌, ◌≤◌, Bool, true, false, cond, leb, List, [], ◌∷◌, ◌++◌, length, map, filter, Option, Some, None, refl, sym, ap, subst, ◌∙◌, arith, inl, inr}
use Rattle.std.specs.Prelude.{not}
use Rattle.std.specs.Ordering.{nat_cmp}
use Rattle.std.specs.declared.cmp.Ordering.TheVariants.{Less}
use Rattle.std.proofs.lemmas.Bool.{and_parts}
use Rattle.std.proofs.lemmas.Cmp.{nat_cmp_total}
use Rattle.std.proofs.lemmas.List.{length-append, length-map}
use Rattle.asm_formats.specs.Among.{IsAmong}
use Rattle.asm_formats.specs.Items.{Item, item_key, templates_item, settings_item}
use Rattle.asm_formats.specs.Status.{ascends_from}
use Rattle.asm_formats.proofs.Among.{among_filter, among_map}
use Rattle.asm_images.specs.Describing.{is_operation_item}
use Rattle.asm_base.specs.Records.{Ascend}
use Rattle.asm_base.proofs.Exact.{some_is}
use Rattle.catalog_laws.specs.file_directory.Files as files
use Rattle.catalog_laws.specs.extent_map.Extents as extents
use Rattle.catalog_laws.specs.alias_tree.Nodes as nodes
use Rattle.catalog_laws.specs.staleness_directory.Marks as stale
use Rattle.catalog_laws.specs.operations_directory.Operations as operations
use Rattle.catalog_laws.specs.disk_directory.Disks as disks
use Rattle.catalog_laws.specs.catalog_tables.Tables.{AreTables, Tables}
use Rattle.catalog_laws.specs.catalog_tables.Rules.{blocks_used}
use Rattle.catalog_laws.specs.catalog_tables.Items.{AreItemsOf}
use Rattle.catalog_laws.proofs.catalog_tables.TableItems.{IsOf, a_file, a_chunk, a_disk, an_operation, the_templates, a_node, the_settings, marks, above_least, below, left_among, map_among, numbers_exact, rank, ranks, right_among, said, says, tail_up}

-- ---- a list without repetitions whose elements are all in another is no longer

unfoldable pub AllApart : {A : Type 0} → List A → Type 0
AllApart [] = Unit {0}
AllApart (x ∷ xs) = (IsAmong xs x → ⊥) × AllApart xs

but : {A : Type 0} (ys : List A) (x : A) → IsAmong ys x → List A
but [] x h = absurd h
but (y ∷ ys) x (inl e) = ys
but (y ∷ ys) x (inr h) = y ∷ but ys x h

but_length : {A : Type 0} (ys : List A) (x : A) (h : IsAmong ys x) → length ys ≡ suc (length (but ys x h))
unfolding but
but_length [] x h = absurd h
but_length (y ∷ ys) x (inl e) = refl
but_length (y ∷ ys) x (inr h) = ap suc (but_length ys x h)

but_among : {A : Type 0} (ys : List A) (x : A) (h : IsAmong ys x) (z : A) → IsAmong ys z → (z ≡ x) ⊎ IsAmong (but ys x h) z
unfolding but
but_among [] x h z m = absurd h
but_among (y ∷ ys) x (inl e) z (inl f) = inl (f ∙ sym e)
but_among (y ∷ ys) x (inl e) z (inr m) = inr m
but_among (y ∷ ys) x (inr h) z (inl f) = inr (inl f)
but_among (y ∷ ys) x (inr h) z (inr m) = elim (but_among ys x h z m) [ inl e ↦ inl e | inr r ↦ inr (inr r) ]

pub no_longer : {A : Type 0} (xs ys : List A) → AllApart xs → ((x : A) → IsAmong xs x → IsAmong ys x) → length xs ≤ length ys
unfolding AllApart
no_longer [] ys apart into = omega arith
no_longer {A} (x ∷ xs) ys apart into =
    let h = into x (inl refl) in
    let rest = no_longer xs (but ys x h) apart.1 (λ z m. elim (but_among ys x h z (into z (inr m))) [
      | inl e ↦ absurd (apart.0 (subst (λ (w : A). IsAmong xs w) e m))
      | inr r ↦ r
    ]) in
    omega (arith, rest, but_length ys x h)

filtered : {A : Type 0} (p : A → Bool) (xs : List A) → AllApart xs → AllApart (filter p xs)
unfolding AllApart
filtered p [] apart = tt
filtered {A} p (x ∷ xs) apart = by (p x) (filtered p xs apart.1) where
  by : (b : Bool) → AllApart (filter p xs) → AllApart (cond b (x ∷ filter p xs) (filter p xs))
  by true rest = (λ m. apart.0 (among_filter p xs x m), rest)
  by false rest = rest

in_order_apart : (xs : List Item) (least : ℕ) → ascends_from least (ranks xs) ≡ true → AllApart xs
unfolding AllApart
in_order_apart [] least up = tt
in_order_apart (x ∷ xs) least up =
    let rest = (and_parts (leb least (rank x)) (ascends_from (rank x + 1) (ranks xs)) up).1 in
    (λ m. absurd (omega (arith, above_least xs (rank x + 1) rest x m)), in_order_apart xs (rank x + 1) rest)

passes : (p : Item → Bool) (xs : List Item) (x : Item) → IsAmong (filter p xs) x → p x ≡ true
passes p [] x h = absurd h
passes p (y ∷ xs) x h = by (p y) refl h (passes p xs x) where
  by : (b : Bool) → p y ≡ b → IsAmong (cond b (y ∷ filter p xs) (filter p xs)) x → (IsAmong (filter p xs) x → p x ≡ true) → p x ≡ true
  by true is (inl e) rest = ap p e ∙ is
  by true is (inr k) rest = rest k
  by false is k rest = rest k

-- ---- room

abbrev kept : Item → Bool
kept i = not (is_operation_item i)

abbrev others : Tables → List Item
others t = map files.item_of_file_head t.files ++ (map extents.item_of_chunk t.extents ++ (map nodes.item_of_node t.nodes ++ (map stale.item_of_marks t.stale ++ (map disks.item_of_disk t.disks ++ (templates_item t.templates.templates ∷ settings_item t.templates.settings ∷ [])))))

mapped : {X : Type 0} (item_of : X → Item) (xs : List X) (i : Item) (x : X) → IsAmong xs x → i ≡ item_of x → IsAmong (map item_of xs) i
mapped item_of xs i x h e = subst (λ (j : Item). IsAmong (map item_of xs) j) (sym e) (among_map item_of xs x h)

module _ (t : Tables) where
  abbrev f4 : List Item
  f4 = map disks.item_of_disk t.disks ++ (templates_item t.templates.templates ∷ settings_item t.templates.settings ∷ [])

  abbrev f3 : List Item
  f3 = map stale.item_of_marks t.stale ++ f4

  abbrev f2 : List Item
  f2 = map nodes.item_of_node t.nodes ++ f3

  abbrev f1 : List Item
  f1 = map extents.item_of_chunk t.extents ++ f2

  is_op : (i : Item) → IsAmong (operations.items_of t.operations) i → is_operation_item i ≡ true
  is_op i h = by t.operations.rebalance t.operations.pending h where
    by : (a : Option ℕ) (b : Option _) → IsAmong (operations.items_of (record { pending = b; rebalance = a })) i → is_operation_item i ≡ true
    by None None h = absurd h
    by (Some p) None (inl e) = ap is_operation_item e
    by (Some p) None (inr h) = absurd h
    by None (Some op) (inl e) = ap is_operation_item e
    by None (Some op) (inr h) = absurd h
    by (Some p) (Some op) (inl e) = ap is_operation_item e
    by (Some p) (Some op) (inr (inl e)) = ap is_operation_item e
    by (Some p) (Some op) (inr (inr h)) = absurd h

  in_others : (i : Item) → kept i ≡ true → IsOf t i → IsAmong (others t) i
  in_others i ok (a_file x h e) = left_among (map files.item_of_file_head t.files) f1 i (mapped files.item_of_file_head t.files i x h e)
  in_others i ok (a_chunk x h e) = right_among (map files.item_of_file_head t.files) f1 i (left_among (map extents.item_of_chunk t.extents) f2 i (mapped extents.item_of_chunk t.extents i x h e))
  in_others i ok (a_node x h e) = right_among (map files.item_of_file_head t.files) f1 i (right_among (map extents.item_of_chunk t.extents) f2 i (left_among (map nodes.item_of_node t.nodes) f3 i (mapped nodes.item_of_node t.nodes i x h e)))
  in_others i ok (marks x h e) = right_among (map files.item_of_file_head t.files) f1 i (right_among (map extents.item_of_chunk t.extents) f2 i (right_among (map nodes.item_of_node t.nodes) f3 i (left_among (map stale.item_of_marks t.stale) f4 i (mapped stale.item_of_marks t.stale i x h e))))
  in_others i ok (a_disk x h e) = right_among (map files.item_of_file_head t.files) f1 i (right_among (map extents.item_of_chunk t.extents) f2 i (right_among (map nodes.item_of_node t.nodes) f3 i (right_among (map stale.item_of_marks t.stale) f4 i (left_among (map disks.item_of_disk t.disks) _ i (mapped disks.item_of_disk t.disks i x h e)))))
  in_others i ok (the_templates e) = right_among (map files.item_of_file_head t.files) f1 i (right_among (map extents.item_of_chunk t.extents) f2 i (right_among (map nodes.item_of_node t.nodes) f3 i (right_among (map stale.item_of_marks t.stale) f4 i (right_among (map disks.item_of_disk t.disks) (templates_item t.templates.templates ∷ settings_item t.templates.settings ∷ []) i (inl e)))))
  in_others i ok (the_settings e) = right_among (map files.item_of_file_head t.files) f1 i (right_among (map extents.item_of_chunk t.extents) f2 i (right_among (map nodes.item_of_node t.nodes) f3 i (right_among (map stale.item_of_marks t.stale) f4 i (right_among (map disks.item_of_disk t.disks) (templates_item t.templates.templates ∷ settings_item t.templates.settings ∷ []) i (inr (inl e))))))
  in_others i ok (an_operation h) = clash (is_operation_item i) (is_op i h) ok where
    clash : {B : Type 0} (b : Bool) → b ≡ true → not b ≡ true → B
    clash true e f = absurd cc
    clash false e f = absurd cc

  others_length : length (others t) ≡ blocks_used t
  others_length = omega (
    arith,
    length-append (map files.item_of_file_head t.files) f1,
    length-append (map extents.item_of_chunk t.extents) f2,
    length-append (map nodes.item_of_node t.nodes) f3,
    length-append (map stale.item_of_marks t.stale) f4,
    length-append (map disks.item_of_disk t.disks) (templates_item t.templates.templates ∷ settings_item t.templates.settings ∷ []),
    length-map t.files files.item_of_file_head,
    length-map t.extents extents.item_of_chunk,
    length-map t.nodes nodes.item_of_node,
    length-map t.stale stale.item_of_marks,
    length-map t.disks disks.item_of_disk,
  )

  pub few_items : (items : List Item) → AreItemsOf t items → length (filter kept items) ≤ blocks_used t
  few_items items is = subst (λ (n : ℕ). length (filter kept items) ≤ n) others_length
      (no_longer (filter kept items) (others t) (filtered kept items (in_order_apart items 0 is.in_order))
      (λ i h. in_others i (passes kept items i h) (said t (item_key i) i (is.to_table i (among_filter kept items i h))).0))

-- ---- nodes

nodes_apart : (xs : List nodes.Numbered) → Ascend nodes.is_before xs → AllApart (map nodes.item_of_node xs)
unfolding AllApart
nodes_apart [] up = tt
nodes_apart (x ∷ xs) up = (
  λ m.
      let y = map_among nodes.item_of_node xs (nodes.item_of_node x) m in
      let same : x ≡ y.0 = some_is x y.0 (ap nodes.node_of_item y.2) in
      let less : nat_cmp x.0 y.0.0 ≡ Less = below nat_cmp nat_cmp_total numbers_exact x xs y.0 up y.1 in
      let self : nat_cmp x.0 x.0 ≡ Less = ap (λ (z : nodes.Numbered). nat_cmp x.0 z.0) same ∙ less in
      grind (arith, self),
  nodes_apart xs (tail_up nat_cmp nat_cmp_total numbers_exact x xs up),
)

pub few_nodes : (t : Tables) (items : List Item) → AreTables t → AreItemsOf t items → length t.nodes ≤ length items
few_nodes t items a is =
    subst (λ (n : ℕ). n ≤ length items) (length-map t.nodes nodes.item_of_node)
    (no_longer (map nodes.item_of_node t.nodes) items (nodes_apart t.nodes a.nodes.items.0)
    (λ i h.
    let x = map_among nodes.item_of_node t.nodes i h in
    is.from_table (item_key i) i (says t i a (a_node x.0 x.1 x.2))))
