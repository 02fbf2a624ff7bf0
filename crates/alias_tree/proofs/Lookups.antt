-- What a path that is looked up says to the tree of names.
use Rattle.std.proofs.Common.{◌≡◌, ℕ, arith, Bool, true, false, List, [], ◌∷◌, length, Option, Some, None, refl, sym, ap, subst, ◌∙◌}
use Rattle.std.specs.Prelude.{is_some, ◌||◌}
use Rattle.std.specs.Option.{option_and_then, option_map}
use Rattle.std.proofs.lemmas.Bool.{ne_eqb, true≢false}
use Rattle.asm_group.specs.Names.{Bytes, Path, folded_path}
use Rattle.asm_group.specs.TreeEdits.{is_root, is_there, entry_at}
use Rattle.asm_formats.specs.Items.{Node}
use Rattle.asm_formats.specs.Nodes.{entry_of_node}
use Rattle.alias_tree.specs.Nodes.{Numbered, node_at, number_from, IsNodeTable}
use Rattle.alias_tree.specs.Trees.{tree_of, number_by, node_by}
use Rattle.alias_tree.proofs.Leading.{shown_node}
use Rattle.alias_tree.proofs.Ways.{by_folded, tree_has}

pub not_root : (x : Bytes) (path : Path) → is_root (x ∷ path) ≡ false
not_root x path = ne_eqb (length (x ∷ path)) 0 (λ e. absurd (omega arith))

pub root_is : (path : Path) → is_root path ≡ true → path ≡ []
root_is [] e = refl
root_is (x ∷ path) e = absurd (true≢false (sym e ∙ not_root x path))

-- what is there has a number
pub there_number : (nodes : List Numbered) (path : Path) → IsNodeTable nodes → is_there (tree_of nodes) path ≡ true → (p : ℕ) × (number_by nodes 0 (folded_path path) ≡ Some p)
there_number nodes path t e = one (is_root path) refl e where
  one : (b : Bool) → is_root path ≡ b → (b || is_some (entry_at (tree_of nodes) path)) ≡ true → (p : ℕ) × (number_by nodes 0 (folded_path path) ≡ Some p)
  one true r h = (0, ap (λ (q : Path). number_by nodes 0 (folded_path q)) (root_is path r))
  one false r h = let s = shown_node nodes (folded_path path) t h in (s.0, s.2)

-- what a found path says to the tree
pub node_is : (nodes now : List Numbered) (path : Path) (o : Option ℕ) (n : ℕ) (node : Option Node) → nodes ≡ now → IsNodeTable nodes → o ≡ number_from now 0 path → o ≡ Some n → node ≡ node_at nodes n
    → (node ≡ node_by now (folded_path path)) × (option_map entry_of_node node ≡ entry_at (tree_of now) path)
node_is nodes now path o n node is t e some at =
    let by : number_by now 0 (folded_path path) ≡ Some n = sym (by_folded now path 0) ∙ (sym e ∙ some) in
    let found : node ≡ node_by now (folded_path path) = at ∙ (ap (λ (xs : List Numbered). node_at xs n) is ∙ sym (ap (λ (i : Option ℕ). option_and_then (λ m. node_at now m) i) by)) in
    (found, ap (λ (i : Option Node). option_map entry_of_node i) found ∙ sym (tree_has now (folded_path path) (subst IsNodeTable is t)))

pub node_is_none : (nodes now : List Numbered) (path : Path) (o : Option ℕ) → nodes ≡ now → IsNodeTable nodes → o ≡ number_from now 0 path → o ≡ None
    → (None ≡ node_by now (folded_path path)) × (None ≡ entry_at (tree_of now) path)
node_is_none nodes now path o is t e none =
    let by : number_by now 0 (folded_path path) ≡ None = sym (by_folded now path 0) ∙ (sym e ∙ none) in
    let found : None ≡ node_by now (folded_path path) = sym (ap (λ (i : Option ℕ). option_and_then (λ m. node_at now m) i) by) in
    (found, ap (λ (i : Option Node). option_map entry_of_node i) found ∙ sym (tree_has now (folded_path path) (subst IsNodeTable is t)))
