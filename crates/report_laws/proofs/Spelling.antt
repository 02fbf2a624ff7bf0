-- Paths of a group's tree, spelt as the nodes are.
use Rattle.std.proofs.Common.{◌≡◌, ◌⊎◌, inl, inr, ℕ, zero, suc, ◌+◌, true, List, [], ◌∷◌, ◌++◌, length, append_assoc, append-nil, Option, Some, None, refl, sym, ap, subst, ◌∙◌, arith}
use Rattle.std.specs.Option.{option_and_then, option_map}
use Rattle.std.proofs.lemmas.List.{map-append, length-map}
use Rattle.asm_group.specs.Group.{Group, TreeEntry}
use Rattle.asm_group.specs.Names.{Bytes, Path, folded, folded_path}
use Rattle.asm_group.specs.TreeEdits.{Tree}
use Rattle.asm_group.specs.TreeEdits as trees
use Rattle.asm_formats.specs.Items.{Node}
use Rattle.asm_formats.specs.Nodes.{entry_of_node}
use Rattle.asm_base.proofs.Exact.{some_is}
use Rattle.asm_world.specs.Edits.{group_entry_at, spelt_below, spelt_part}
use Rattle.alias_tree.specs.Nodes.{IsNodeTable, Numbered, node_at, number_of, reaches_root}
use Rattle.alias_tree.specs.Spelling.{names_to}
use Rattle.alias_tree.specs.Trees.{number_by, tree_of}
use Rattle.alias_tree.proofs.Paths.{entry_is}
use Rattle.alias_tree.proofs.Rules.{at_root}
use Rattle.alias_tree.proofs.Ways.{at_or_below, at_zero, by_folded, by_last, by_step, child_found, no_root, reaches_below}

folded_more : (p : Path) (x : Bytes) → folded_path (p ++ x ∷ []) ≡ folded_path p ++ folded x ∷ []
folded_more p x = map-append folded p (x ∷ [])

-- what isn't there has none
pub names_none : (nodes : List Numbered) (k n : ℕ) → node_at nodes n ≡ None → names_to nodes k n ≡ []
unfolding names_to
names_none nodes zero n e = refl
names_none nodes (suc k) n e = rw e refl

module _ (nodes : List Numbered) (is : IsNodeTable nodes) where
  -- ---- the names on the way to a node

  names_zero : (n : ℕ) → names_to nodes zero n ≡ []
  unfolding names_to
  names_zero n = refl

  names_root : (k : ℕ) → names_to nodes k 0 ≡ []
  unfolding names_to
  names_root zero = refl
  names_root (suc k) = rw (no_root nodes is) refl

  names_step : (k n : ℕ) (node : Node) → node_at nodes n ≡ Some node → names_to nodes (suc k) n ≡ names_to nodes k node.parent ++ node.name ∷ []
  unfolding names_to
  names_step k n node e = rw e refl

  -- enough steps are enough
  names_more : (k j n : ℕ) → reaches_root nodes k n ≡ true → names_to nodes (k + j) n ≡ names_to nodes k n
  names_more zero j n r = subst (λ (m : ℕ). names_to nodes (zero + j) m ≡ names_to nodes zero m) (sym (at_zero nodes n r)) (names_root (zero + j) ∙ sym (names_zero 0))
  names_more (suc k) j n r =
      let more : suc k + j ≡ suc (k + j) = omega arith in
      subst (λ (i : ℕ). names_to nodes i n ≡ names_to nodes (suc k) n) (sym more) (one (at_or_below nodes k n r) (λ m h. names_more k j m h))
    where
      one : ((n ≡ 0) ⊎ ((node : Node) × (node_at nodes n ≡ Some node) × (reaches_root nodes k node.parent ≡ true))) → ((m : ℕ) → reaches_root nodes k m ≡ true → names_to nodes (k + j) m ≡ names_to nodes k m)
          → names_to nodes (suc (k + j)) n ≡ names_to nodes (suc k) n
      one (inl z) more = subst (λ (m : ℕ). names_to nodes (suc (k + j)) m ≡ names_to nodes (suc k) m) (sym z) (names_root (suc (k + j)) ∙ sym (names_root (suc k)))
      one (inr (node, e, h)) more = names_step (k + j) n node e ∙ (ap (λ (p : Path). p ++ node.name ∷ []) (more node.parent h) ∙ sym (names_step k n node e))

  reaches_down : (q : Path) (a n k : ℕ) → number_by nodes a q ≡ Some n → reaches_root nodes k a ≡ true → reaches_root nodes (k + length q) n ≡ true
  reaches_down [] a n k e r =
      let none : k + 0 ≡ k = omega arith in
      subst (λ (i : ℕ). reaches_root nodes i n ≡ true) (sym none) (subst (λ (m : ℕ). reaches_root nodes k m ≡ true) (some_is a n e) r)
  reaches_down (x ∷ q) a n k e r =
      let s = by_step nodes x q a n e in
      let c = child_found nodes a x s.0 is s.1 in
      let count : k + suc (length q) ≡ suc k + length q = omega arith in
      subst (λ (i : ℕ). reaches_root nodes i n ≡ true) (sym count)
      (reaches_down q s.0 n (suc k) s.2 (reaches_below nodes k s.0 c.node c.at (subst (λ (m : ℕ). reaches_root nodes k m ≡ true) (sym c.parent_is) r)))

  -- a path that isn't the root's leads to a node
  pub at_node : (x : Bytes) (q : Path) (a n : ℕ) → number_by nodes a (x ∷ q) ≡ Some n → (node : Node) × (node_at nodes n ≡ Some node)
  at_node x [] a n e =
      let s = by_step nodes x [] a n e in
      let c = child_found nodes a x s.0 is s.1 in
      (c.node, subst (λ (m : ℕ). node_at nodes m ≡ Some c.node) (some_is s.0 n s.2) c.at)
  at_node x (y ∷ q) a n e = let s = by_step nodes x (y ∷ q) a n e in at_node y q s.0 n s.2

  pub to_folded : (path : Path) (n : ℕ) → number_of nodes path ≡ Some n → number_by nodes 0 (folded_path path) ≡ Some n
  unfolding number_of
  to_folded path n e = sym (by_folded nodes path 0) ∙ e

  pub from_folded : (path : Path) (n : ℕ) → number_by nodes 0 (folded_path path) ≡ Some n → number_of nodes path ≡ Some n
  unfolding number_of
  from_folded path n e = by_folded nodes path 0 ∙ e

  -- ---- the tree's spelling

  module _ (g : Group) (tree : g.tree ≡ tree_of nodes) where
    pub entry_by : (path : Path) → group_entry_at g path ≡ option_map entry_of_node (option_and_then (λ n. node_at nodes n) (number_of nodes path))
    unfolding number_of
    entry_by path =
        ap (λ (t : Tree). trees.entry_at t path) tree ∙ entry_is nodes path is
        ∙ ap (λ (o : Option ℕ). option_map entry_of_node (option_and_then (λ n. node_at nodes n) o)) (sym (by_folded nodes path 0))

    entry_there : (path : Path) (n : ℕ) (node : Node) → number_by nodes 0 (folded_path path) ≡ Some n → node_at nodes n ≡ Some node → group_entry_at g path ≡ Some (entry_of_node node)
    entry_there path n node at there =
        ap (λ (t : Tree). trees.entry_at t path) tree ∙ entry_is nodes path is
        ∙ ap (λ (o : Option ℕ). option_map entry_of_node (option_and_then (λ m. node_at nodes m) o)) at
        ∙ ap (option_map entry_of_node) there

    spelt_down : (above q : Path) (a n k : ℕ) → number_by nodes 0 (folded_path above) ≡ Some a → number_by nodes a (folded_path q) ≡ Some n
        → names_to nodes (k + length q) n ≡ names_to nodes k a ++ spelt_below g above q
    spelt_down above [] a n k at e =
        let same : a ≡ n = some_is a n e in
        let none : k + 0 ≡ k = omega arith in
        ap (λ (i : ℕ). names_to nodes i n) none ∙ (ap (λ (m : ℕ). names_to nodes k m) (sym same) ∙ sym (append-nil (names_to nodes k a)))
    spelt_down above (x ∷ q) a n k at e =
        let s = by_step nodes (folded x) (folded_path q) a n e in
        let c = child_found nodes a (folded x) s.0 is s.1 in
        let next : Path = above ++ x ∷ [] in
        let here : number_by nodes 0 (folded_path next) ≡ Some s.0 =
        ap (λ (p : Path). number_by nodes 0 p) (folded_more above x) ∙ by_last nodes (folded_path above) (folded x) 0 a at ∙ s.1 in
        let rest : Path = spelt_below g next q in
        let down : names_to nodes (suc k + length q) n ≡ names_to nodes (suc k) s.0 ++ rest = spelt_down next q s.0 n (suc k) here s.2 in
        let step : names_to nodes (suc k) s.0 ≡ names_to nodes k a ++ c.node.name ∷ [] = names_step k s.0 c.node c.at ∙ ap (λ (m : ℕ). names_to nodes k m ++ c.node.name ∷ []) c.parent_is in
        let first : spelt_part (group_entry_at g next) x ≡ c.node.name = ap (λ (o : Option TreeEntry). spelt_part o x) (entry_there next s.0 c.node here c.at) in
        let count : k + suc (length q) ≡ suc k + length q = omega arith in
        ap (λ (i : ℕ). names_to nodes i n) count
        ∙ (down ∙ (ap (λ (p : Path). p ++ rest) step
        ∙ (append_assoc (names_to nodes k a) (c.node.name ∷ []) rest ∙ ap (λ (y : Bytes). names_to nodes k a ++ y ∷ rest) (sym first))))

    -- a path that leads to a node is spelt as the node's own
    pub spelt_is : (path : Path) (n : ℕ) → number_of nodes path ≡ Some n → spelt_below g [] path ≡ names_to nodes (length nodes) n
    spelt_is path n e = sym down ∙ by (node_at nodes n) refl where
      leads : number_by nodes 0 (folded_path path) ≡ Some n
      leads = to_folded path n e

      down : names_to nodes (0 + length path) n ≡ spelt_below g [] path
      down = spelt_down [] path 0 n 0 refl leads ∙ ap (λ (p : Path). p ++ spelt_below g [] path) (names_zero 0)

      steps : 0 + length (folded_path path) ≡ 0 + length path
      steps = ap (λ (k : ℕ). 0 + k) (length-map path folded)

      reached : reaches_root nodes (0 + length path) n ≡ true
      reached = subst (λ (k : ℕ). reaches_root nodes k n ≡ true) steps (reaches_down (folded_path path) 0 n 0 leads (at_root nodes 0 0 refl))

      by : (o : Option Node) → node_at nodes n ≡ o → names_to nodes (0 + length path) n ≡ names_to nodes (length nodes) n
      by None f = names_none nodes (0 + length path) n f ∙ sym (names_none nodes (length nodes) n f)
      by (Some node) f =
          let turned : (0 + length path) + length nodes ≡ length nodes + (0 + length path) = omega arith in
          sym (names_more (0 + length path) (length nodes) n reached)
          ∙ (ap (λ (i : ℕ). names_to nodes i n) turned ∙ names_more (length nodes) (0 + length path) n (is.rule.rooted n node f))
