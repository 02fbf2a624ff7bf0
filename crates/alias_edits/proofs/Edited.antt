-- The tree of names after each edit is the one that the edit says.
use Rattle.std.proofs.Common.{◌≡◌, ℕ, true, false, List, Option, Some, None, refl, sym, ap, subst, ◌∙◌}
use Rattle.std.specs.Prelude.{is_some, not, ◌||◌}
use Rattle.std.specs.BTreeMap.{is_at}
use Rattle.std.specs.FinMap as maps
use Rattle.std.specs.Ordering.{nat_cmp}
use Rattle.std.proofs.lemmas.Bool.{true≢false}
use Rattle.std.proofs.lemmas.Option.{none-some}
use Rattle.asm_group.specs.declared.NodeKind.{NodeKind}
use Rattle.asm_group.specs.declared.NodeKind.TheVariants.{Directory, System, Alias}
use Rattle.asm_group.specs.Names.{Bytes, Path, folded, folded_path}
use Rattle.asm_group.specs.Group.{TreeEntry}
use Rattle.asm_group.specs.Refusal as r
use Rattle.asm_group.specs.Causes.{first_cause}
use Rattle.asm_group.specs.TreeEdits as e
use Rattle.asm_group.specs.TreeEdits.{Tree, last_part, up, is_there, is_dir, is_file, is_system_entry, file_at, entry_at, lacks_parent, has_alias}
use Rattle.asm_formats.specs.Items.{Node}
use Rattle.alias_tree.proofs.asm_base.Exact.{some_is}
use Rattle.alias_edits.specs.Edits.{HangsAt, PutsNode, PutsAlias, RemovesNode, MovesNode, RemovesNames}
use Rattle.alias_tree.specs.Numbers.{is_name_of}
use Rattle.alias_tree.specs.Nodes.{Numbered, node_at, number_of, with_numbered_node, without_numbered_node, is_directory, kind_is_directory, IsNodeTable}
use Rattle.asm_formats.specs.Nodes.{node_kind, entry_of_node}
use Rattle.alias_tree.specs.Trees.{tree_of, number_by}
use Rattle.alias_edits.proofs.Allowed.{four_false, both_false, number_is, IsNew, is_new, new_name}
use Rattle.alias_edits.proofs.Done.{drops_dir, drops_alias, renames_alias, named_file, file_leaf, none_below_empty, entry_number, one_gone, gone_table, new_without, hangs_without, again, again_table, hung_may, hung_parent}
use Rattle.alias_edits.proofs.Growing.{OneGone, by_pruned, kept_is, inserted_tree, removed_tree, unnamed_tree, same_nodes_tree}
use Rattle.alias_tree.proofs.IndexLaws.{at_is, at_self, not_at, item_at}
use Rattle.alias_tree.proofs.Keeping.{at_with, Pruned, item_number, none_below_new}
use Rattle.alias_tree.proofs.Ways.{by_last, child_at, no_root}

-- ---- a node is put

-- where a node is put, with what that rests on
pub record Placed (old : List Numbered) (path : Path) (n : ℕ) (node : Node) : Type 0 where
  pub there : node_at (with_numbered_node old n node) n ≡ Some node
  pub gone : OneGone (with_numbered_node old n node) old n
  pub root : is_at (nat_cmp n) 0 ≡ false
  pub at : number_by (with_numbered_node old n node) 0 (folded_path path) ≡ Some n

pub placed : (old : List Numbered) (path : Path) (n : ℕ) (node : Node) → IsNodeTable old → IsNodeTable (with_numbered_node old n node) → IsNew old path → HangsAt old path node → node_at old n ≡ None → Placed old path n node
placed old path n node t u new hangs free = record { there = there; gone = gone; root = root; at = at } where
  there : node_at (with_numbered_node old n node) n ≡ Some node
  there = at_with old n node n ∙ rw (at_self n) refl

  gone : OneGone (with_numbered_node old n node) old n
  gone = record {
    stay = λ m e. sym (at_with old n node m ∙ rw e refl);
    left = λ m e. ap (λ (k : ℕ). node_at old k) (sym (at_is n m e)) ∙ free;
    leaves = λ m x e. not_at n x.parent (λ z. none_below_new old n node t free (item_at (with_numbered_node old n node) n node u.items there) (hung_may old path node new hangs) m x e (sym z));
  }

  root : is_at (nat_cmp n) 0 ≡ false
  root = not_at n 0 (λ z. item_number n node (item_at (with_numbered_node old n node) n node u.items there) z)

  above : number_by (with_numbered_node old n node) 0 (folded_path (up path)) ≡ Some new.parent
  above = (kept_is (λ m. is_at (nat_cmp n) m) (number_by (with_numbered_node old n node) 0 (folded_path (up path))) new.parent (sym (by_pruned (with_numbered_node old n node) old (λ m. is_at (nat_cmp n) m) (folded_path (up path)) 0 u t gone root) ∙ new.above)).0

  at : number_by (with_numbered_node old n node) 0 (folded_path path) ≡ Some n
  at = ap (λ (p : Path). number_by (with_numbered_node old n node) 0 p) new.key ∙ (by_last (with_numbered_node old n node) (folded_path (up path)) (folded (last_part path)) 0 new.parent above
      ∙ child_at (with_numbered_node old n node) new.parent (folded (last_part path)) n u (record { node = node; at = there; parent_is = sym (hung_parent old path node new hangs); name_is = ap folded hangs.name }))

pub put_tree : (old : List Numbered) (path : Path) (n : ℕ) (node : Node) → IsNodeTable old → IsNodeTable (with_numbered_node old n node) → IsNew old path → HangsAt old path node → node_at old n ≡ None
    → tree_of (with_numbered_node old n node) ≡ maps.insert (tree_of old) (folded_path path) (entry_of_node node)
put_tree old path n node t u new hangs free =
    let p = placed old path n node t u new hangs free in
    inserted_tree (with_numbered_node old n node) old n node (folded_path path) u t p.gone p.root p.at p.there

-- the path of a new node leads to it
pub put_number : (old : List Numbered) (path : Path) (n : ℕ) (node : Node) → IsNodeTable old → IsNodeTable (with_numbered_node old n node) → first_cause (e.new_name_causes (tree_of old) path) ≡ None → HangsAt old path node → node_at old n ≡ None → number_of (with_numbered_node old n node) path ≡ Some n
put_number old path n node t u none hangs free = number_is (with_numbered_node old n node) path ∙ (placed old path n node t u (new_name old path t none) hangs free).at

abbrev pub entry_named : Bytes → NodeKind → ℕ → TreeEntry
entry_named name kind file = record { name = name; node = node_kind kind file }

pub entry_as : (node : Node) (name : Bytes) (kind : NodeKind) (file : ℕ) → node.name ≡ name → node.kind ≡ kind → node.file ≡ file → entry_of_node node ≡ entry_named name kind file
entry_as node name kind file a b c =
    ap (λ (x : Bytes). entry_named x node.kind node.file) a ∙ (ap (λ (k : NodeKind). entry_named name k node.file) b ∙ ap (λ (f : ℕ). entry_named name kind f) c)

puts_tree : (old new : List Numbered) (path : Path) (kind : NodeKind) (file : ℕ) → IsNodeTable old → IsNodeTable new → IsNew old path → PutsNode old new path kind file
    → tree_of new ≡ maps.insert (tree_of old) (folded_path path) (entry_named (last_part path) kind file)
puts_tree old new path kind file t u free p =
    ap tree_of p.after ∙ (put_tree old path p.number p.node t (subst IsNodeTable p.after u) free p.hangs p.free.free
    ∙ ap (λ (x : TreeEntry). maps.insert (tree_of old) (folded_path path) x) (entry_as p.node (last_part path) kind file p.hangs.name p.kind_is p.file_is))

pub make_dir_tree : (old new : List Numbered) (path : Path) → IsNodeTable old → IsNodeTable new → first_cause (e.edit_causes (tree_of old) (e.MakeDir path)) ≡ None → PutsNode old new path Directory 0 → tree_of new ≡ e.changed (tree_of old) (e.MakeDir path)
make_dir_tree old new path t u none p = puts_tree old new path Directory 0 t u (new_name old path t none) p

pub add_file_tree : (old new : List Numbered) (path : Path) (file : ℕ) → IsNodeTable old → IsNodeTable new → first_cause (e.edit_causes (tree_of old) (e.AddFile path file)) ≡ None → PutsNode old new path System file → tree_of new ≡ e.changed (tree_of old) (e.AddFile path file)
add_file_tree old new path file t u none p = puts_tree old new path System file t u (new_name old path t none) p

pub add_alias_tree : (old new : List Numbered) (alias path : Path) → IsNodeTable old → IsNodeTable new → first_cause (e.edit_causes (tree_of old) (e.AddAliasEntry alias path)) ≡ None → PutsAlias old new alias path → tree_of new ≡ e.changed (tree_of old) (e.AddAliasEntry alias path)
add_alias_tree old new alias path t u none p =
    let f = four_false (not (is_file (tree_of old) path) || lacks_parent (tree_of old) alias) (is_there (tree_of old) alias) (not (is_dir (tree_of old) (up alias))) (has_alias (tree_of old) (file_at (tree_of old) path)) r.NoName r.NameTaken r.NotDirectory r.HasAlias none in
    let g = both_false (not (is_file (tree_of old) path)) (lacks_parent (tree_of old) alias) f.0 in
    puts_tree old new alias Alias p.file t u (is_new old alias t g.1 f.1 f.2) p.puts ∙ ap (λ (o : Option ℕ). e.with_alias (tree_of old) alias o) (sym p.file_is)

-- ---- a node goes

removes_tree : (old new : List Numbered) (path : Path) → IsNodeTable old → IsNodeTable new → is_some (entry_at (tree_of old) path) ≡ true → (p : RemovesNode old new path) → ((m : ℕ) (x : Node) → node_at old m ≡ Some x → x.parent ≡ p.number → ⊥)
    → tree_of new ≡ maps.remove (tree_of old) (folded_path path)
removes_tree old new path t u there p leaf =
    let s = entry_number old path t there in
    let same : s.0 ≡ p.number = some_is s.0 p.number (sym s.2 ∙ p.at) in
    let node : node_at old p.number ≡ Some s.1 = ap (λ (k : ℕ). node_at old k) (sym same) ∙ s.3 in
    ap tree_of p.after
    ∙ removed_tree old (without_numbered_node old p.number) p.number (folded_path path) t (subst IsNodeTable p.after u) (one_gone old p.number t leaf)
    (not_at p.number 0 (λ z. none-some s.1 (sym (no_root old t) ∙ (ap (λ (k : ℕ). node_at old k) (sym z) ∙ node)))) (sym (number_is old path) ∙ p.at)

pub drop_dir_tree : (old new : List Numbered) (path : Path) → IsNodeTable old → IsNodeTable new → first_cause (e.edit_causes (tree_of old) (e.DropDir path)) ≡ None → RemovesNode old new path → tree_of new ≡ e.changed (tree_of old) (e.DropDir path)
drop_dir_tree old new path t u none p = let d = drops_dir old path none in removes_tree old new path t u d.there p (none_below_empty old path p.number t d.empty p.at)

pub drop_alias_tree : (old new : List Numbered) (path : Path) → IsNodeTable old → IsNodeTable new → first_cause (e.edit_causes (tree_of old) (e.DropAliasEntry path)) ≡ None → RemovesNode old new path → tree_of new ≡ e.changed (tree_of old) (e.DropAliasEntry path)
drop_alias_tree old new path t u none p =
    let file = drops_alias old path none in
    let f = named_file old path t file in
    removes_tree old new path t u (ap is_some f.4) p (file_leaf old path p.number t file p.at)

-- ---- the names of a file go

dir_no_name : (node : Node) (file : ℕ) → is_directory node ≡ true → e.names_file file (node_kind node.kind node.file) ≡ false
dir_no_name node file d = of_kind node.kind d where
  of_kind : (kind : NodeKind) → kind_is_directory kind ≡ true → e.names_file file (node_kind kind node.file) ≡ false
  of_kind Directory d = refl
  of_kind System d = absurd (true≢false (sym d))
  of_kind Alias d = absurd (true≢false (sym d))

pub names_gone : (old new : List Numbered) (file : ℕ) → IsNodeTable old → RemovesNames old new file → Pruned old new (λ m. is_name_of file (node_at old m))
names_gone old new file t p = record { stay = λ m q. p m ∙ rw q refl; left = λ m q. p m ∙ rw q refl; leaves = λ m x q. one m x q (node_at old x.parent) refl } where
  one : (m : ℕ) (x : Node) → node_at old m ≡ Some x → (o : Option Node) → node_at old x.parent ≡ o → is_name_of file (node_at old x.parent) ≡ false
  one m x q None f = ap (is_name_of file) f
  one m x q (Some y) f = ap (is_name_of file) f ∙ dir_no_name y file (t.rule.parents m x y q f)

pub drop_file_tree : (old new : List Numbered) (file : ℕ) → IsNodeTable old → IsNodeTable new → RemovesNames old new file → tree_of new ≡ e.changed (tree_of old) (e.DropFileEntries file)
drop_file_tree old new file t u p = unnamed_tree old new file t u (names_gone old new file t p)

-- ---- an alias moves

alias_kind : (node : Node) → is_system_entry (Some (entry_of_node node)) ≡ false → is_directory node ≡ false → node.kind ≡ Alias
alias_kind node s d = of_kind node.kind s d where
  of_kind : (kind : NodeKind) → e.is_system_node (node_kind kind node.file) ≡ false → kind_is_directory kind ≡ false → kind ≡ Alias
  of_kind Directory s d = absurd (true≢false d)
  of_kind System s d = absurd (true≢false s)
  of_kind Alias s d = refl

pub rename_alias_tree : (old new : List Numbered) (from to : Path) → IsNodeTable old → IsNodeTable new → first_cause (e.edit_causes (tree_of old) (e.RenameAliasEntry from to)) ≡ None → MovesNode old new from to → tree_of new ≡ e.changed (tree_of old) (e.RenameAliasEntry from to)
rename_alias_tree old new from to t u none p =
    let a = renames_alias old from to t none in
    let causes = four_false (not (is_file (tree_of old) from) || lacks_parent (tree_of old) to) (is_there (tree_of old) to) (not (is_dir (tree_of old) (up to))) (is_system_entry (entry_at (tree_of old) from)) r.NoName r.NameTaken r.NotDirectory r.SystemName none in
    let f = named_file old from t a.file in
    let same : f.0 ≡ p.number = some_is f.0 p.number (sym f.2 ∙ p.moved.at) in
    let at : node_at old p.number ≡ Some f.1 = ap (λ (k : ℕ). node_at old k) (sym same) ∙ f.3 in
    let was : p.moved.was ≡ f.1 = some_is p.moved.was f.1 (sym p.moved.was_at ∙ at) in
    let kind : f.1.kind ≡ Alias = alias_kind f.1 (ap is_system_entry (sym f.4) ∙ causes.3) f.5 in
    let leaf = file_leaf old from p.number t a.file p.moved.at in
    let mid = gone_table old p.number t leaf in
    let gone = one_gone old p.number t leaf in
    let both = new_without old p.number to f.1 t mid gone at f.5 a.free in
    let free = both.0 in
    let hangs = hangs_without old p.number to p.node a.free free both.1 p.moved.hangs in
    let big = subst IsNodeTable p.after u in
    let small = again_table old p.number p.node t big in
    let node_is : entry_of_node p.node ≡ entry_named (last_part to) Alias f.1.file =
    entry_as p.node (last_part to) Alias f.1.file p.moved.hangs.name (p.moved.kind_is ∙ (ap (λ (x : Node). x.kind) was ∙ kind)) (p.moved.file_is ∙ ap (λ (x : Node). x.file) was) in
    let file_is : file_at (tree_of old) from ≡ Some f.1.file = ap e.file_of_entry f.4 ∙ ap (λ (k : NodeKind). e.file_of_node (node_kind k f.1.file)) kind in
    let one : tree_of (with_numbered_node old p.number p.node) ≡ tree_of (with_numbered_node (without_numbered_node old p.number) p.number p.node) =
    same_nodes_tree (with_numbered_node (without_numbered_node old p.number) p.number p.node) (with_numbered_node old p.number p.node) small big (again old p.number p.node t) in
    let two = put_tree (without_numbered_node old p.number) to p.number p.node mid small free hangs (gone.left p.number (at_self p.number)) in
    let three = removed_tree old (without_numbered_node old p.number) p.number (folded_path from) t mid gone (not_at p.number 0 (λ z. none-some f.1 (sym (no_root old t) ∙ (ap (λ (k : ℕ). node_at old k) (sym z) ∙ at)))) (sym (number_is old from) ∙ p.moved.at) in
    ap tree_of p.after ∙ (one ∙ (two ∙ (ap (λ (x : TreeEntry). maps.insert (tree_of (without_numbered_node old p.number)) (folded_path to) x) node_is
    ∙ (ap (λ (x : Tree). maps.insert x (folded_path to) (entry_named (last_part to) Alias f.1.file)) three ∙ ap (λ (o : Option ℕ). e.with_alias (e.without_node (tree_of old) from) to o) (sym file_is)))))
