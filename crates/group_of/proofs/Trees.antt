-- The tree of names and its rules, as the items have them.
use Rattle.std.proofs.Common.{◌≡◌, ℕ, zero, suc, ◌+◌, ◌-◌, Bool, true, eqb, List, [], ◌∷◌, length, Option, Some, None, refl, sym, ap, subst, ◌∙◌, arith}
use Rattle.std.specs.Prelude.{◌&&◌, ◌||◌}
use Rattle.std.specs.FinMap as maps
use Rattle.std.specs.Option.{option_and_then, option_map, option_or}
use Rattle.std.specs.Str.{bytes_eq}
use Rattle.std.proofs.lemmas.Bool.{and_parts, eqb-true, eq-eqb}
use Rattle.std.proofs.lemmas.Option.{none-some}
use Rattle.std.proofs.lemmas.Slice.Eq.{bytes_eq-Decides}
use Rattle.asm_group.specs.declared.NodeKind.{NodeKind}
use Rattle.asm_group.specs.declared.NodeKind.TheVariants.{Directory, System, Alias}
use Rattle.asm_group.specs.Names.{Bytes, Path, folded}
use Rattle.asm_formats.specs.Among.{IsAmong}
use Rattle.asm_formats.specs.Items.{FileHead, Item, Node, item_key, node_item}
use Rattle.asm_formats.specs.Nodes.{entry_of_node}
use Rattle.asm_placement.specs.Naming.{is_kind_directory, is_named_as, names_back}
use Rattle.asm_placement.specs.Tables.{first_said, head_of, if_is}
use Rattle.asm_images.specs.Tables.{node_of}
use Rattle.asm_images.specs.Tree as images
use Rattle.asm_images.specs.Tree.{KeepsTreeRules, node_at_path}
use Rattle.asm_base.proofs.Exact.{some_is, test_some}
use Rattle.catalog_laws.specs.alias_tree.Nodes as nodes
use Rattle.catalog_laws.specs.alias_tree.Nodes.{child, node_at}
use Rattle.catalog_laws.specs.alias_tree.Trees.{number_by, tree_of}
use Rattle.catalog_laws.proofs.alias_tree.Ways.{ChildAt, child_at, child_found, no_root, reaches_more, tree_has}
use Rattle.catalog_laws.specs.catalog_tables.Tables.{AreTables, Tables, item_at}
use Rattle.catalog_laws.specs.catalog_tables.Rules as rules
use Rattle.catalog_laws.specs.catalog_tables.Rules.{KeepsRules}
use Rattle.catalog_laws.specs.catalog_tables.Items.{AreItemsOf}
use Rattle.catalog_laws.proofs.catalog.NumberedEntries.{found_passes}
use Rattle.catalog_laws.proofs.ItemLaws.{heads_are}
use Rattle.group_of.proofs.Says.{first_is, first_none, nodes_are}
use Rattle.group_of.proofs.Counts.{few_nodes}
use Rattle.asm_group.specs.Shape.{Shape}

-- ---- a child

abbrev is_it : ℕ → Bytes → Node → Bool
is_it parent name node = eqb node.parent parent && bytes_eq (folded node.name) name

abbrev tells_child : ℕ → Bytes → Item → Option (ℕ × Node)
tells_child parent name (node_item n node) = if_is (is_it parent name node) (n, node)
tells_child parent name _ = None

child_said : (items : List Item) (parent : ℕ) (name : Bytes) → images.child_node items parent name ≡ first_said (tells_child parent name) items
child_said [] parent name = refl
child_said (node_item n node ∷ items) parent name = ap (option_or (if_is (is_it parent name node) (n, node))) (child_said items parent name)
child_said (i ∷ items) parent name = child_said items parent name

record Told (parent : ℕ) (name : Bytes) (i : Item) (z : ℕ × Node) : Type 0 where
  is : i ≡ node_item z.0 z.1
  parent_is : z.1.parent ≡ parent
  name_is : folded z.1.name ≡ name

told : (parent : ℕ) (name : Bytes) (i : Item) (z : ℕ × Node) → tells_child parent name i ≡ Some z → Told parent name i z
told parent name (node_item n node) z e =
    let p = test_some (is_it parent name node) (n, node) z e in
    let q = and_parts (eqb node.parent parent) (bytes_eq (folded node.name) name) p.0 in
    subst (λ (y : ℕ × Node). Told parent name (node_item n node) y) p.1
    (record { is = refl; parent_is = eqb-true node.parent parent q.0; name_is = (bytes_eq-Decides (folded node.name) name).0 q.1 })
told parent name _ z e = absurd cc

module _ (t : Tables) (items : List Item) (a : AreTables t) (is : AreItemsOf t items) where
  node_there : (n : ℕ) (node : Node) → node_at t.nodes n ≡ Some node → IsAmong items (node_item n node)
  unfolding item_at
  node_there n node e = is.from_table (item_key (node_item n node)) (node_item n node) (ap (option_map (node_item n)) e)

  node_back : (n : ℕ) (node : Node) → IsAmong items (node_item n node) → node_at t.nodes n ≡ Some node
  unfolding item_at
  node_back n node h = by (node_at t.nodes n) (is.to_table (node_item n node) h) where
    by : (o : Option Node) → option_map (node_item n) o ≡ Some (node_item n node) → o ≡ Some node
    by None e = absurd (none-some (node_item n node) e)
    by (Some x) e = ap (λ (i : Option Item). option_and_then node_in i) e where
      node_in : Item → Option Node
      node_in (node_item m y) = Some y
      node_in _ = None

  told_child : (parent : ℕ) (name : Bytes) (j : Item) (z : ℕ × Node) → IsAmong items j → tells_child parent name j ≡ Some z → ChildAt t.nodes parent name z.0 × (node_at t.nodes z.0 ≡ Some z.1)
  told_child parent name j z h e =
      let o = told parent name j z e in
      let at = node_back z.0 z.1 (subst (λ (i : Item). IsAmong items i) o.is h) in
      (record { node = z.1; at = at; parent_is = o.parent_is; name_is = o.name_is }, at)

  -- the child by the items is that by the nodes
  children_are : (parent : ℕ) (name : Bytes) → images.child_node items parent name ≡ option_and_then (λ m. option_map (λ (node : Node). (m, node)) (node_at t.nodes m)) (child t.nodes parent name)
  children_are parent name = child_said items parent name ∙ by (child t.nodes parent name) refl where
    by : (o : Option ℕ) → child t.nodes parent name ≡ o → first_said (tells_child parent name) items ≡ option_and_then (λ m. option_map (λ (node : Node). (m, node)) (node_at t.nodes m)) o
    by None e = first_none (tells_child parent name) items (λ j z h g. none-some z.0 (sym e ∙ child_at t.nodes parent name z.0 a.nodes (told_child parent name j z h g).0))
    by (Some m) e =
        let c = child_found t.nodes parent name m a.nodes e in
        let tells : tells_child parent name (node_item m c.node) ≡ Some (m, c.node) = rw (eq-eqb c.node.parent parent c.parent_is, (bytes_eq-Decides (folded c.node.name) name).1 c.name_is) refl in
        first_is (tells_child parent name) items (node_item m c.node) (m, c.node) (node_there m c.node c.at) tells
        (λ j z h g.
        let d = told_child parent name j z h g in
        let number : z.0 ≡ m = some_is z.0 m (sym (child_at t.nodes parent name z.0 a.nodes d.0) ∙ e) in
        let node : z.1 ≡ c.node = some_is z.1 c.node (sym d.1 ∙ ap (node_at t.nodes) number ∙ c.at) in
        λ i. (number i, node i))
        ∙ sym (ap (option_map (λ (node : Node). (m, node))) c.at)

  abbrev next : List Bytes → Option (ℕ × Node) → Option Node
  next names None = None
  next names (Some c) = images.walk_to_node items c.0 (Some c.1) names

  walk_step : (n : ℕ) (at : Option Node) (name : Bytes) (names : List Bytes) (o : Option (ℕ × Node)) → images.child_node items n name ≡ o → images.walk_to_node items n at (name ∷ names) ≡ next names o
  walk_step n at name names None e = rw e refl
  walk_step n at name names (Some c) e = rw e refl

  walks : (path : Path) (n : ℕ) (at : Option Node) → node_at t.nodes n ≡ at → images.walk_to_node items n at path ≡ option_and_then (λ m. node_at t.nodes m) (number_by t.nodes n path)
  walks [] n at e = sym e
  walks (name ∷ names) n at e = by (child t.nodes n name) refl (λ m o g. walks names m o g) where
    by : (o : Option ℕ) → child t.nodes n name ≡ o → ((m : ℕ) (w : Option Node) → node_at t.nodes m ≡ w → images.walk_to_node items m w names ≡ option_and_then (λ k. node_at t.nodes k) (number_by t.nodes m names))
        → images.walk_to_node items n at (name ∷ names) ≡ option_and_then (λ k. node_at t.nodes k) (option_and_then (λ m. number_by t.nodes m names) o)
    by None e rest = walk_step n at name names None (children_are n name ∙ ap (option_and_then (λ m. option_map (λ (node : Node). (m, node)) (node_at t.nodes m))) e)
    by (Some m) e rest =
        let c = child_found t.nodes n name m a.nodes e in
        walk_step n at name names (Some (m, c.node)) (children_are n name ∙ ap (option_and_then (λ m. option_map (λ (node : Node). (m, node)) (node_at t.nodes m))) e ∙ ap (option_map (λ (node : Node). (m, node))) c.at)
        ∙ rest m (Some c.node) c.at

  pub same_tree : (path : Path) → maps.get (tree_of t.nodes) path ≡ option_map entry_of_node (node_at_path items path)
  unfolding node_at_path
  same_tree path = tree_has t.nodes path a.nodes ∙ ap (option_map entry_of_node) (sym (walks path 0 None (no_root t.nodes a.nodes)))

  -- ---- rules

  same_directory : (k : NodeKind) → is_kind_directory k ≡ nodes.kind_is_directory k
  same_directory Directory = refl
  same_directory System = refl
  same_directory Alias = refl

  same_reaches : (steps n : ℕ) → images.reaches_root_in_items items steps n ≡ nodes.reaches_root t.nodes steps n
  unfolding nodes.reaches_root
  same_reaches zero n = refl
  same_reaches (suc steps) n = by (node_at t.nodes n) refl (λ m. same_reaches steps m) where
    by : (o : Option Node) → node_at t.nodes n ≡ o → ((m : ℕ) → images.reaches_root_in_items items steps m ≡ nodes.reaches_root t.nodes steps m) → images.reaches_root_in_items items (suc steps) n ≡ nodes.reaches_root t.nodes (suc steps) n
    by None e rest = rw (nodes_are t items is n, e) refl
    by (Some node) e rest = rw (nodes_are t items is n, e) (ap (λ (b : Bool). eqb n 0 || b) (rest node.parent))

  pub parents : (n : ℕ) (node parent : Node) → node_of items n ≡ Some node → node_of items node.parent ≡ Some parent → is_kind_directory parent.kind ≡ true
  parents n node parent e f = same_directory parent.kind ∙ a.nodes.rule.parents n node parent (sym (nodes_are t items is n) ∙ e) (sym (nodes_are t items is node.parent) ∙ f)

  pub rooted : (n : ℕ) (node : Node) → node_of items n ≡ Some node → images.reaches_root_in_items items (length items) n ≡ true
  rooted n node e =
      let few = few_nodes t items a is in
      let more : length t.nodes + (length items - length t.nodes) ≡ length items = omega (arith, few) in
      same_reaches (length items) n
      ∙ subst (λ (k : ℕ). nodes.reaches_root t.nodes k n ≡ true) more (reaches_more t.nodes (length t.nodes) (length items - length t.nodes) n (a.nodes.rule.rooted n node (sym (nodes_are t items is n) ∙ e)))

  pub distinct : (m n : ℕ) (x y : Node) → node_of items m ≡ Some x → node_of items n ≡ Some y → x.parent ≡ y.parent → folded x.name ≡ folded y.name → m ≡ n
  distinct m n x y e f = a.nodes.rule.distinct m n x y (sym (nodes_are t items is m) ∙ e) (sym (nodes_are t items is n) ∙ f)

-- ---- nodes and files name each other

module _ (s : Shape) (t : Tables) (items : List Item) (k : KeepsRules s t) (is : AreItemsOf t items) where
  named_back : (n : ℕ) (node : Node) → images.is_named_back_in_items items n node ≡ rules.is_named_back t (n, node)
  named_back n node = ap (λ (o : Option FileHead). is_kind_directory node.kind || names_back node.kind n o) (heads_are t items k.tables is node.file)

  names : (f : ℕ) (kind : NodeKind) (n : ℕ) → images.names_file_in_items items f kind n ≡ rules.names_file_in_tables t f kind n
  names f kind n = ap (λ (o : Option Node). eqb n 0 || is_named_as kind f o) (nodes_are t items is n)

  both_names : (f : ℕ) (head : FileHead) → head_of items f ≡ Some head → (rules.names_file_in_tables t f System head.system ≡ true) × (rules.names_file_in_tables t f Alias head.alias ≡ true)
  both_names f head e =
      let p = found_passes (rules.has_names t) t.files f head k.names (sym (heads_are t items k.tables is f) ∙ e) in
      and_parts (rules.names_file_in_tables t f System head.system) (rules.names_file_in_tables t f Alias head.alias) p

  pub tree_rules : KeepsTreeRules items
  tree_rules = record {
    parents = parents t items k.tables is;
    rooted = rooted t items k.tables is;
    distinct = distinct t items k.tables is;
    nodes = λ n node e. named_back n node ∙ found_passes (rules.is_named_back t) t.nodes n node k.nodes (sym (nodes_are t items is n) ∙ e);
    system = λ f head e. names f System head.system ∙ (both_names f head e).0;
    alias = λ f head e. names f Alias head.alias ∙ (both_names f head e).1;
  }
