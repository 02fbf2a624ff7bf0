-- What stands at a path of a group's tree, by the nodes.
use Rattle.std.proofs.Common.{◌≡◌, ℕ, Bool, true, false, List, [], ◌∷◌, length, Option, Some, None, refl, sym, ap, ◌∙◌, arith}
use Rattle.std.specs.Prelude.{◌||◌, is_some}
use Rattle.std.specs.Option.{option_and_then, option_map}
use Rattle.std.proofs.lemmas.Bool.{ne_eqb}
use Rattle.std.proofs.lemmas.Option.{none-some, same_Some}
use Rattle.asm_group.specs.declared.NodeKind.{NodeKind}
use Rattle.asm_group.specs.declared.NodeKind.TheVariants.{Directory, System, Alias}
use Rattle.asm_group.specs.Group.{Group, TreeEntry}
use Rattle.asm_group.specs.Names.{Bytes, Path, folded}
use Rattle.asm_group.specs.TreeEdits.{is_dir_entry, is_dir_node, is_root}
use Rattle.asm_formats.specs.Items.{Node}
use Rattle.asm_formats.specs.Nodes.{entry_of_node, node_kind}
use Rattle.asm_world.specs.Edits as world
use Rattle.alias_tree.specs.Nodes.{IsNodeTable, Numbered, kind_is_directory, node_at, number_of}
use Rattle.alias_tree.specs.Trees.{tree_of}
use Rattle.alias_tree.proofs.Ways.{no_root}
use Rattle.group_reports.specs.Places.{is_directory_in}
use Rattle.report_laws.proofs.Spelling.{at_node, entry_by, to_folded}

same_kind : (kind : NodeKind) (file : ℕ) → is_dir_node (node_kind kind file) ≡ kind_is_directory kind
same_kind Directory file = refl
same_kind System file = refl
same_kind Alias file = refl

pub root : (nodes : List Numbered) → number_of nodes [] ≡ Some 0
unfolding number_of
root nodes = refl

pub filled : (part : Bytes) (path : Path) → is_root (part ∷ path) ≡ false
filled part path = ne_eqb (length (part ∷ path)) 0 (λ e. absurd (omega (arith, e)))

module _ (nodes : List Numbered) (is : IsNodeTable nodes) (g : Group) (tree : g.tree ≡ tree_of nodes) where
  -- the node of a path below the root
  node_of : (part : Bytes) (path : Path) (n : ℕ) → number_of nodes (part ∷ path) ≡ Some n → (node : Node) × (node_at nodes n ≡ Some node)
  node_of part path n e = at_node nodes is (folded part) _ 0 n (to_folded nodes is (part ∷ path) n e)

  pub entry_of : (path : Path) (n : ℕ) (node : Node) → number_of nodes path ≡ Some n → node_at nodes n ≡ Some node → world.group_entry_at g path ≡ Some (entry_of_node node)
  entry_of path n node e there =
      entry_by nodes is g tree path ∙ ap (λ (o : Option ℕ). option_map entry_of_node (option_and_then (λ m. node_at nodes m) o)) e ∙ ap (option_map entry_of_node) there

  pub no_entry : (path : Path) → number_of nodes path ≡ None → world.group_entry_at g path ≡ None
  no_entry path e = entry_by nodes is g tree path ∙ ap (λ (o : Option ℕ). option_map entry_of_node (option_and_then (λ m. node_at nodes m) o)) e

  pub there : (path : Path) (n : ℕ) → number_of nodes path ≡ Some n → world.group_has_path g path ≡ true
  there [] n e = refl
  there (part ∷ path) n e =
      let node = node_of part path n e in
      ap (λ (b : Bool). b || is_some (world.group_entry_at g (part ∷ path))) (filled part path) ∙ ap (λ (o : Option TreeEntry). is_some o) (entry_of (part ∷ path) n node.0 e node.1)

  pub not_there : (path : Path) → number_of nodes path ≡ None → world.group_has_path g path ≡ false
  not_there [] e = absurd (none-some 0 (sym e ∙ root nodes))
  not_there (part ∷ path) e =
      ap (λ (b : Bool). b || is_some (world.group_entry_at g (part ∷ path))) (filled part path) ∙ ap (λ (o : Option TreeEntry). is_some o) (no_entry (part ∷ path) e)

  pub is_dir : (path : Path) (n : ℕ) → number_of nodes path ≡ Some n → world.group_has_dir g path ≡ is_directory_in n (node_at nodes n)
  is_dir [] n e =
      let top : 0 ≡ n = same_Some 0 n (sym (root nodes) ∙ e) in
      sym (ap (λ (m : ℕ). is_directory_in m (node_at nodes m)) (sym top) ∙ ap (is_directory_in 0) (no_root nodes is))
  is_dir (part ∷ path) n e =
      let node = node_of part path n e in
      ap (λ (b : Bool). b || is_dir_entry (world.group_entry_at g (part ∷ path))) (filled part path) ∙ ap is_dir_entry (entry_of (part ∷ path) n node.0 e node.1) ∙ same_kind node.0.kind node.0.file ∙ sym (ap (is_directory_in n) node.1)
