-- The path of a node.
use Rattle.std.proofs.Common.{◌≡◌, ◌<◌, ◌≤◌, ◌+◌, ◌-◌, ℕ, zero, suc, List, [], ◌∷◌, ◌++◌, length, map, append_assoc, Option, Some, None, refl, sym, ap, subst, ◌∙◌, arith}
use Rattle.std.specs.Prelude.{reverse}
use Rattle.std.specs.Option.{option_and_then, option_map}
use Rattle.std.proofs.lemmas.List.{append-nil, map-append, reverse-append}
use Rattle.std.proofs.lemmas.Option.{none-some}
use Rattle.asm_group.specs.Names.{Bytes, Path, folded, folded_path}
use Rattle.asm_group.specs.TreeEdits.{entry_at}
use Rattle.asm_formats.specs.Items.{Node}
use Rattle.asm_formats.specs.Nodes.{entry_of_node}
use Rattle.alias_tree.specs.Nodes.{IsNodeTable, Numbered, node_at, number_of}
use Rattle.alias_tree.specs.Spelling.{names_to}
use Rattle.alias_tree.specs.Trees.{node_by, number_by, tree_of, way_to}
use Rattle.alias_tree.proofs.Paths.{entry_is}
use Rattle.alias_tree.proofs.Ways.{by_folded, way_leads}

-- ---- the way up, step by step

no_names : (nodes : List Numbered) (n : ℕ) → names_to nodes zero n ≡ []
unfolding names_to
no_names nodes n = refl

names_step : (nodes : List Numbered) (k n : ℕ) (node : Node) → node_at nodes n ≡ Some node → names_to nodes (suc k) n ≡ names_to nodes k node.parent ++ node.name ∷ []
unfolding names_to
names_step nodes k n node e = rw e refl

names_none : (nodes : List Numbered) (k n : ℕ) → node_at nodes n ≡ None → names_to nodes k n ≡ []
unfolding names_to
names_none nodes zero n e = refl
names_none nodes (suc k) n e = rw e refl

-- the names that were met, from the node up, with those that are still above
abbrev pub IsWayUp : List Numbered → ℕ → ℕ → ℕ → List Bytes → Type 0
IsWayUp nodes n i at names = names_to nodes (length nodes - i) at ++ reverse names ≡ names_to nodes (length nodes) n

pub at_first : (nodes : List Numbered) (n : ℕ) (names : List Bytes) → names ≡ [] → IsWayUp nodes n 0 n names
at_first nodes n names e =
    let whole : length nodes - 0 ≡ length nodes = omega arith in
    ap (λ (xs : List Bytes). names_to nodes (length nodes - 0) n ++ reverse xs) e ∙ append-nil (names_to nodes (length nodes - 0) n) ∙ ap (λ (k : ℕ). names_to nodes k n) whole

pub one_up : (nodes : List Numbered) (n i at : ℕ) (names more : List Bytes) (node : Node) → i < length nodes → node_at nodes at ≡ Some node → more ≡ names ++ node.name ∷ [] → IsWayUp nodes n i at names → IsWayUp nodes n (i + 1) node.parent more
one_up nodes n i at names more node lt e is up =
    let left : length nodes - i ≡ suc (length nodes - (i + 1)) = omega (arith, lt) in
    let turned : reverse more ≡ node.name ∷ reverse names = ap (λ (xs : List Bytes). reverse xs) is ∙ reverse-append names (node.name ∷ []) in
    ap (λ (xs : List Bytes). names_to nodes (length nodes - (i + 1)) node.parent ++ xs) turned
    ∙ sym (append_assoc (names_to nodes (length nodes - (i + 1)) node.parent) (node.name ∷ []) (reverse names))
    ∙ ap (λ (xs : Path). xs ++ reverse names) (sym (names_step nodes (length nodes - (i + 1)) at node e))
    ∙ ap (λ (k : ℕ). names_to nodes k at ++ reverse names) (sym left) ∙ up

pub at_top : (nodes : List Numbered) (n i at : ℕ) (names : List Bytes) → node_at nodes at ≡ None → IsWayUp nodes n i at names → reverse names ≡ names_to nodes (length nodes) n
at_top nodes n i at names e up = ap (λ (xs : Path). xs ++ reverse names) (sym (names_none nodes (length nodes - i) at e)) ∙ up

pub at_last : (nodes : List Numbered) (n i at : ℕ) (names : List Bytes) → length nodes ≤ i → IsWayUp nodes n i at names → reverse names ≡ names_to nodes (length nodes) n
at_last nodes n i at names past up =
    let none : length nodes - i ≡ zero = omega (arith, past) in
    ap (λ (xs : Path). xs ++ reverse names) (sym (ap (λ (k : ℕ). names_to nodes k at) none ∙ no_names nodes at)) ∙ up

-- ---- where it leads

folded_more : (p : Path) (x : Bytes) → folded_path (p ++ x ∷ []) ≡ folded_path p ++ folded x ∷ []
folded_more [] x = refl
folded_more (y ∷ p) x = ap (λ (q : Path). folded y ∷ q) (folded_more p x)

folded_names : (nodes : List Numbered) (k n : ℕ) → folded_path (names_to nodes k n) ≡ way_to nodes k n
unfolding names_to way_to
folded_names nodes zero n = refl
folded_names nodes (suc k) n = by (node_at nodes n) refl (λ m. folded_names nodes k m) where
  by : (o : Option Node) → node_at nodes n ≡ o → ((m : ℕ) → folded_path (names_to nodes k m) ≡ way_to nodes k m) → folded_path (names_to nodes (suc k) n) ≡ way_to nodes (suc k) n
  by None e more = rw e refl
  by (Some node) e more = rw e (folded_more (names_to nodes k node.parent) node.name ∙ ap (λ (p : Path). p ++ folded node.name ∷ []) (more node.parent))

module _ (nodes : List Numbered) (n : ℕ) (node : Node) (parts : Path) (is : IsNodeTable nodes) (there : node_at nodes n ≡ Some node) (spelt : parts ≡ names_to nodes (length nodes) n) where
  way : number_by nodes 0 (folded_path parts) ≡ Some n
  way = ap (λ (p : Path). number_by nodes 0 (folded_path p)) spelt ∙ ap (λ (p : Path). number_by nodes 0 p) (folded_names nodes (length nodes) n) ∙ way_leads nodes n node is there

  pub leads_there : number_of nodes parts ≡ Some n
  unfolding number_of
  leads_there = by_folded nodes parts 0 ∙ way

  pub has_entry : entry_at (tree_of nodes) parts ≡ option_map entry_of_node (node_at nodes n)
  has_entry = entry_is nodes parts is ∙ ap (λ (o : Option ℕ). option_map entry_of_node (option_and_then (λ m. node_at nodes m) o)) way
