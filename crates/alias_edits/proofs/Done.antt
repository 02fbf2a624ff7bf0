-- What edits that aren't refused make of the nodes keeps the rule of the table.
use Rattle.std.proofs.Common.{◌≡◌, ℕ, ◌<◌, ◌^◌, true, false, cond, List, [], ◌∷◌, ◌++◌, Option, Some, None, refl, sym, ap, subst, ◌∙◌, arith, inl, inr}
use Rattle.std.specs.Prelude.{is_some, not, ◌||◌, IsTrue}
use Rattle.std.specs.BTreeMap.{is_at}
use Rattle.std.specs.Ordering.{nat_cmp}
use Rattle.std.proofs.lemmas.Bool.{true≢false}
use Rattle.std.proofs.lemmas.Option.{none-some}
use Rattle.asm_group.specs.declared.NodeKind.{NodeKind}
use Rattle.asm_group.specs.declared.NodeKind.TheVariants.{Directory, System, Alias}
use Rattle.asm_group.specs.Names.{Bytes, Path, folded, folded_path, is_part}
use Rattle.asm_group.specs.Group.{TreeEntry}
use Rattle.asm_group.specs.Refusal as r
use Rattle.asm_group.specs.Causes.{first_cause}
use Rattle.asm_group.specs.TreeEdits.{up, last_part, is_root, is_there, is_dir, is_file, is_under, is_system_entry, file_of_node, file_of_entry, entry_at, has_entries, lacks_parent, edit_causes, DropDir, DropAliasEntry, RenameAliasEntry, new_name_causes}
use Rattle.asm_formats.specs.Items.{Node, node_item, is_item}
use Rattle.alias_tree.proofs.asm_base.Exact.{some_is}
use Rattle.alias_edits.specs.Edits.{HangsAt, IsMoved, are_parts}
use Rattle.alias_tree.specs.Numbers.{IsLeastFree}
use Rattle.alias_tree.specs.Nodes.{Numbered, node_at, number_of, number_from, with_numbered_node, without_numbered_node, is_directory, kind_is_directory, IsNodeTable, child}
use Rattle.asm_formats.specs.Nodes.{node_kind, entry_of_node}
use Rattle.alias_tree.specs.Trees.{tree_of, number_by}
use Rattle.alias_edits.proofs.Allowed.{two_false, three_false, four_false, both_false, not_false, number_is, IsNew, is_new, new_name, last_is_part}
use Rattle.alias_tree.proofs.Lookups.{not_root, there_number}
use Rattle.alias_edits.proofs.Growing.{OneGone, by_pruned, child_pruned, keep, same_table}
use Rattle.alias_tree.proofs.IndexLaws.{either, at_self, not_at, item_at}
use Rattle.alias_tree.proofs.Keeping.{at_with, at_without, with_items, without_items, MayHang, put_keeps_table, pruned_keeps_table}
use Rattle.alias_tree.proofs.Leading.{key_any, shown_node, shows, under_of}
use Rattle.alias_tree.proofs.Paths.{last_of}
use Rattle.alias_tree.proofs.Readings.{number_is_some, file_is_small, hung_item}
use Rattle.alias_tree.proofs.Ways.{by_folded, by_last, child_at, no_root}
use Rattle.alias_tree.proofs.FileNodes.{none_below_file}

-- ---- numbers and paths

pub number_from_is : (nodes : List Numbered) (path : Path) → number_of nodes path ≡ number_from nodes 0 path
number_from_is nodes path = number_is nodes path ∙ sym (by_folded nodes path 0)

pub above_missing : (nodes : List Numbered) (path above : Path) (o : Option ℕ) → IsNodeTable nodes → lacks_parent (tree_of nodes) path ≡ false → above ≡ up path → o ≡ number_from nodes 0 above → o ≡ None → ⊥
above_missing nodes path above o t lacks is e none =
    let there = not_false (is_there (tree_of nodes) (up path)) (both_false (is_root path) (not (is_there (tree_of nodes) (up path))) lacks).1 in
    let n = there_number nodes (up path) t there in
    none-some n.0 (sym none ∙ (e ∙ (ap (λ (p : Path). number_from nodes 0 p) is ∙ (by_folded nodes (up path) 0 ∙ n.1))))

pub hangs_above : (nodes : List Numbered) (path above : Path) (o : Option ℕ) (parent : ℕ) → above ≡ up path → o ≡ number_from nodes 0 above → o ≡ Some parent → number_of nodes (up path) ≡ Some parent
hangs_above nodes path above o parent is e some = number_from_is nodes (up path) ∙ (ap (λ (p : Path). number_from nodes 0 p) (sym is) ∙ (sym e ∙ some))

pub hangs_name : (path slice rest : Path) (last name : Bytes) → slice ≡ path → slice ≡ rest ++ last ∷ [] → name ≡ last → name ≡ last_part path
hangs_name path slice rest last name is e copied = copied ∙ last_of path rest last (sym is ∙ e)

-- the number of what has an entry, and its node
pub entry_number : (nodes : List Numbered) (path : Path) → IsNodeTable nodes → is_some (entry_at (tree_of nodes) path) ≡ true → (n : ℕ) × (node : Node) × (number_of nodes path ≡ Some n) × (node_at nodes n ≡ Some node)
entry_number nodes path t e = let s = shown_node nodes (folded_path path) t e in (s.0, s.1, number_is nodes path ∙ s.2, s.3)

pub entry_missing : (nodes : List Numbered) (path : Path) (o : Option ℕ) → IsNodeTable nodes → is_some (entry_at (tree_of nodes) path) ≡ true → o ≡ number_of nodes path → o ≡ None → ⊥
entry_missing nodes path o t e is none = let s = entry_number nodes path t e in none-some s.0 (sym none ∙ (is ∙ s.2))

pub node_missing : (nodes : List Numbered) (path : Path) (o : Option ℕ) (n : ℕ) → IsNodeTable nodes → is_some (entry_at (tree_of nodes) path) ≡ true → o ≡ number_of nodes path → o ≡ Some n → node_at nodes n ≡ None → ⊥
node_missing nodes path o n t e is some none =
    let s = entry_number nodes path t e in
    let same : s.0 ≡ n = some_is s.0 n (sym s.2 ∙ (sym is ∙ some)) in
    none-some s.1 (sym none ∙ (ap (λ (k : ℕ). node_at nodes k) (sym same) ∙ s.3))

-- ---- a node is put

-- a node that hangs at a new name is one of the formats
pub parent_small : (nodes : List Numbered) (parent : ℕ) → IsNodeTable nodes → MayHang nodes parent → parent < 2 ^ 32
parent_small nodes parent t hang = elim hang [
  | inl z ↦ (let e : parent ≡ 0 = z in omega arith)
  | inr (above, f, d) ↦ (number_is_some parent above (item_at nodes parent above t.items f)).1
]

new_root : (nodes : List Numbered) (path : Path) → IsNew nodes path → is_root path ≡ false
new_root nodes path new = elim (either (is_root path)) [ inr e ↦ e | inl e ↦ absurd (empty path e new.key) ] where
  empty : (path : Path) → is_root path ≡ true → folded_path path ≡ folded_path (up path) ++ folded (last_part path) ∷ [] → ⊥
  empty [] e key = absurd cc
  empty (x ∷ path) e key = true≢false (sym e ∙ not_root x path)

-- the parent of a node that hangs at a new name
pub hung_parent : (nodes : List Numbered) (path : Path) (node : Node) (new : IsNew nodes path) → HangsAt nodes path node → new.parent ≡ node.parent
hung_parent nodes path node new hangs = some_is new.parent node.parent (sym new.above ∙ (sym (number_is nodes (up path)) ∙ hangs.above))

pub hung_may : (nodes : List Numbered) (path : Path) (node : Node) → IsNew nodes path → HangsAt nodes path node → MayHang nodes node.parent
hung_may nodes path node new hangs = subst (λ (k : ℕ). MayHang nodes k) (hung_parent nodes path node new hangs) new.may

pub hung_free : (nodes : List Numbered) (path : Path) (node : Node) → IsNew nodes path → HangsAt nodes path node → child nodes node.parent (folded node.name) ≡ None
hung_free nodes path node new hangs =
    ap (λ (k : ℕ). child nodes k (folded node.name)) (sym (hung_parent nodes path node new hangs)) ∙ (ap (λ (x : Bytes). child nodes new.parent (folded x)) hangs.name ∙ new.free)

pub hung_is_item : (nodes : List Numbered) (path : Path) (n : ℕ) (node : Node) → IsNodeTable nodes → IsNew nodes path → HangsAt nodes path node → IsTrue (are_parts path) → 0 < n → n < 2 ^ 32 → node.file < 2 ^ 32 → is_item (node_item n node) ≡ true
hung_is_item nodes path n node t new hangs parts some small file =
    hung_item n node some small (parent_small nodes node.parent t (hung_may nodes path node new hangs)) file
    (subst (λ (x : Bytes). is_part 80 x ≡ true) (sym hangs.name) (last_is_part path (new_root nodes path new) parts))

pub made_table : (nodes : List Numbered) (path : Path) (n : ℕ) (node : Node) → IsNodeTable nodes → first_cause (new_name_causes (tree_of nodes) path) ≡ None → HangsAt nodes path node → IsTrue (are_parts path) → IsLeastFree nodes n → n < 2 ^ 32 → node.file < 2 ^ 32
    → IsNodeTable (with_numbered_node nodes n node)
made_table nodes path n node t e hangs parts free small file =
    let new = new_name nodes path t e in
    put_keeps_table nodes n node t free.free (hung_is_item nodes path n node t new hangs parts free.some small file) (hung_may nodes path node new hangs) (hung_free nodes path node new hangs)

-- ---- a node goes

pub one_gone : (nodes : List Numbered) (n : ℕ) → IsNodeTable nodes → ((m : ℕ) (x : Node) → node_at nodes m ≡ Some x → x.parent ≡ n → ⊥) → OneGone nodes (without_numbered_node nodes n) n
one_gone nodes n t none = record {
  stay = λ m e. at_without nodes n m t.items.0 ∙ rw e refl;
  left = λ m e. at_without nodes n m t.items.0 ∙ rw e refl;
  leaves = λ m x e. not_at n x.parent (λ z. none m x e (sym z));
}

pub gone_table : (nodes : List Numbered) (n : ℕ) → IsNodeTable nodes → ((m : ℕ) (x : Node) → node_at nodes m ≡ Some x → x.parent ≡ n → ⊥) → IsNodeTable (without_numbered_node nodes n)
gone_table nodes n t none = pruned_keeps_table nodes (without_numbered_node nodes n) (λ m. is_at (nat_cmp n) m) t (one_gone nodes n t none) (without_items nodes n t.items)

-- nothing hangs below a directory that has no names
pub none_below_empty : (nodes : List Numbered) (path : Path) (n : ℕ) → IsNodeTable nodes → has_entries (tree_of nodes) path ≡ false → number_of nodes path ≡ Some n → (m : ℕ) (x : Node) → node_at nodes m ≡ Some x → x.parent ≡ n → ⊥
none_below_empty nodes path n t empty at m x e p =
    let here : number_by nodes 0 (folded_path path) ≡ Some n = sym (number_is nodes path) ∙ at in
    let by : number_by nodes 0 (folded_path path ++ folded x.name ∷ []) ≡ Some m =
    by_last nodes (folded_path path) (folded x.name) 0 n here ∙ child_at nodes n (folded x.name) m t (record { node = x; at = e; parent_is = p; name_is = refl }) in
    true≢false (sym (key_any (tree_of nodes) (λ key. is_under (folded_path path) key) (folded_path path ++ folded x.name ∷ [])
    (ap is_some (shows nodes (folded_path path ++ folded x.name ∷ []) m x t by e)) (under_of (folded_path path) (folded x.name) [])) ∙ empty)

-- a name of a file is no directory's
pub file_node : (node : Node) → is_some (file_of_node (node_kind node.kind node.file)) ≡ true → is_directory node ≡ false
file_node node e = of_kind node.kind e where
  of_kind : (kind : NodeKind) → is_some (file_of_node (node_kind kind node.file)) ≡ true → kind_is_directory kind ≡ false
  of_kind Directory e = absurd (true≢false (sym e))
  of_kind System e = refl
  of_kind Alias e = refl

entry_of_file : (t : Path → Option TreeEntry) (o : Option TreeEntry) → is_some (file_of_entry o) ≡ true → is_some o ≡ true
entry_of_file t None e = e
entry_of_file t (Some x) e = refl

-- the node of a path that names a file
pub named_file : (nodes : List Numbered) (path : Path) → IsNodeTable nodes → not (is_file (tree_of nodes) path) ≡ false → (n : ℕ) × (node : Node) × (number_of nodes path ≡ Some n) × (node_at nodes n ≡ Some node) × (entry_at (tree_of nodes) path ≡ Some (entry_of_node node)) × (is_directory node ≡ false)
named_file nodes path t e =
    let file = not_false (is_file (tree_of nodes) path) e in
    let s = entry_number nodes path t (entry_of_file (λ p. None) (entry_at (tree_of nodes) path) file) in
    let entry = shows nodes (folded_path path) s.0 s.1 t (sym (number_is nodes path) ∙ s.2) s.3 in
    (s.0, s.1, s.2, s.3, entry, file_node s.1 (ap (λ (o : Option TreeEntry). is_some (file_of_entry o)) (sym entry) ∙ file))

-- ---- DropDir

pub record DropsDir (nodes : List Numbered) (path : Path) : Type 0 where
  pub there : is_some (entry_at (tree_of nodes) path) ≡ true
  pub empty : has_entries (tree_of nodes) path ≡ false

pub drops_dir : (nodes : List Numbered) (path : Path) → first_cause (edit_causes (tree_of nodes) (DropDir path)) ≡ None → DropsDir nodes path
drops_dir nodes path e =
    let f = three_false (is_root path || not (is_there (tree_of nodes) path)) (not (is_dir (tree_of nodes) path)) (has_entries (tree_of nodes) path) r.NoName r.NotDirectory r.NotEmpty e in
    let g = both_false (is_root path) (not (is_there (tree_of nodes) path)) f.0 in
    record { there = entry_there path g.0 (not_false (is_there (tree_of nodes) path) g.1); empty = f.2 }
  where
    entry_there : (path : Path) → is_root path ≡ false → is_there (tree_of nodes) path ≡ true → is_some (entry_at (tree_of nodes) path) ≡ true
    entry_there path root there = rw root at there

pub dir_missing : (nodes : List Numbered) (path : Path) (o : Option ℕ) → IsNodeTable nodes → first_cause (edit_causes (tree_of nodes) (DropDir path)) ≡ None → o ≡ number_of nodes path → o ≡ None → ⊥
dir_missing nodes path o t e is none = entry_missing nodes path o t (drops_dir nodes path e).there is none

pub dir_gone_table : (nodes : List Numbered) (path : Path) (o : Option ℕ) (n : ℕ) → IsNodeTable nodes → first_cause (edit_causes (tree_of nodes) (DropDir path)) ≡ None → o ≡ number_of nodes path → o ≡ Some n → IsNodeTable (without_numbered_node nodes n)
dir_gone_table nodes path o n t e is some = gone_table nodes n t (none_below_empty nodes path n t (drops_dir nodes path e).empty (sym is ∙ some))

-- ---- DropAliasEntry

pub drops_alias : (nodes : List Numbered) (path : Path) → first_cause (edit_causes (tree_of nodes) (DropAliasEntry path)) ≡ None → not (is_file (tree_of nodes) path) ≡ false
drops_alias nodes path e = (two_false (not (is_file (tree_of nodes) path)) (is_system_entry (entry_at (tree_of nodes) path)) r.NoName r.SystemName e).0

pub alias_missing : (nodes : List Numbered) (path : Path) (o : Option ℕ) → IsNodeTable nodes → first_cause (edit_causes (tree_of nodes) (DropAliasEntry path)) ≡ None → o ≡ number_of nodes path → o ≡ None → ⊥
alias_missing nodes path o t e is none = let f = named_file nodes path t (drops_alias nodes path e) in none-some f.0 (sym none ∙ (is ∙ f.2))

pub file_leaf : (nodes : List Numbered) (path : Path) (n : ℕ) → IsNodeTable nodes → not (is_file (tree_of nodes) path) ≡ false → number_of nodes path ≡ Some n → (m : ℕ) (x : Node) → node_at nodes m ≡ Some x → x.parent ≡ n → ⊥
file_leaf nodes path n t file at =
    let f = named_file nodes path t file in
    let same : f.0 ≡ n = some_is f.0 n (sym f.2 ∙ at) in
    none_below_file nodes n f.1 t (ap (λ (k : ℕ). node_at nodes k) (sym same) ∙ f.3) f.5

pub alias_gone_table : (nodes : List Numbered) (path : Path) (o : Option ℕ) (n : ℕ) → IsNodeTable nodes → first_cause (edit_causes (tree_of nodes) (DropAliasEntry path)) ≡ None → o ≡ number_of nodes path → o ≡ Some n → IsNodeTable (without_numbered_node nodes n)
alias_gone_table nodes path o n t e is some = gone_table nodes n t (file_leaf nodes path n t (drops_alias nodes path e) (sym is ∙ some))

-- ---- RenameAliasEntry

pub record RenamesAlias (nodes : List Numbered) (old new : Path) : Type 0 where
  pub file : not (is_file (tree_of nodes) old) ≡ false
  pub free : IsNew nodes new

pub renames_alias : (nodes : List Numbered) (old new : Path) → IsNodeTable nodes → first_cause (edit_causes (tree_of nodes) (RenameAliasEntry old new)) ≡ None → RenamesAlias nodes old new
renames_alias nodes old new t e =
    let f = four_false (not (is_file (tree_of nodes) old) || lacks_parent (tree_of nodes) new) (is_there (tree_of nodes) new) (not (is_dir (tree_of nodes) (up new))) (is_system_entry (entry_at (tree_of nodes) old)) r.NoName r.NameTaken r.NotDirectory r.SystemName e in
    let g = both_false (not (is_file (tree_of nodes) old)) (lacks_parent (tree_of nodes) new) f.0 in
    record { file = g.0; free = is_new nodes new t g.1 f.1 f.2 }

-- without a leaf a new name is new still
pub new_without : (nodes : List Numbered) (n : ℕ) (path : Path) (node : Node) → IsNodeTable nodes → IsNodeTable (without_numbered_node nodes n) → OneGone nodes (without_numbered_node nodes n) n → node_at nodes n ≡ Some node → is_directory node ≡ false → (new : IsNew nodes path)
    → (x : IsNew (without_numbered_node nodes n) path) × (new.parent ≡ x.parent)
new_without nodes n path node t u gone at file new = (
  record {
    parent = new.parent;
    above = by_pruned nodes (without_numbered_node nodes n) (λ m. is_at (nat_cmp n) m) (folded_path (up path)) 0 t u gone root ∙ (ap (λ (o : Option ℕ). keep (λ m. is_at (nat_cmp n) m) o) new.above ∙ kept);
    may = may new.may;
    key = new.key;
    free = child_pruned nodes (without_numbered_node nodes n) (λ m. is_at (nat_cmp n) m) new.parent (folded (last_part path)) t u gone ∙ ap (λ (o : Option ℕ). keep (λ m. is_at (nat_cmp n) m) o) new.free;
  },
  refl,
) where
  root : is_at (nat_cmp n) 0 ≡ false
  root = not_at n 0 (λ z. none-some node (sym (no_root nodes t) ∙ (ap (λ (k : ℕ). node_at nodes k) (sym z) ∙ at)))

  -- the directory is another
  other : MayHang nodes new.parent → n ≡ new.parent → ⊥
  other (inl z) same = none-some node (sym (no_root nodes t) ∙ (ap (λ (k : ℕ). node_at nodes k) (sym (same ∙ z)) ∙ at))
  other (inr (above, f, d)) same = true≢false (sym d ∙ (ap is_directory (some_is above node (sym f ∙ (ap (λ (k : ℕ). node_at nodes k) (sym same) ∙ at))) ∙ file))

  kept : cond (is_at (nat_cmp n) new.parent) None (Some new.parent) ≡ Some new.parent
  kept = rw (not_at n new.parent (other new.may)) refl

  may : MayHang nodes new.parent → MayHang (without_numbered_node nodes n) new.parent
  may (inl z) = inl z
  may (inr (above, f, d)) = inr (above, gone.stay new.parent (not_at n new.parent (other (inr (above, f, d)))) ∙ f, d)

pub hangs_without : (nodes : List Numbered) (n : ℕ) (path : Path) (node : Node) → (old : IsNew nodes path) → (new : IsNew (without_numbered_node nodes n) path) → old.parent ≡ new.parent → HangsAt nodes path node → HangsAt (without_numbered_node nodes n) path node
hangs_without nodes n path node old new same hangs = record {
  above = number_is (without_numbered_node nodes n) (up path) ∙ (new.above ∙ ap (λ (k : ℕ). Some k) (sym same ∙ hung_parent nodes path node old hangs));
  name = hangs.name;
}

-- to put a node anew is to put it where it was
pub again : (nodes : List Numbered) (n : ℕ) (node : Node) → IsNodeTable nodes → (k : ℕ) → node_at (with_numbered_node nodes n node) k ≡ node_at (with_numbered_node (without_numbered_node nodes n) n node) k
again nodes n node t k = at_with nodes n node k ∙ (elim (either (is_at (nat_cmp n) k)) [
  | inl hit ↦ rw hit refl
  | inr miss ↦ rw miss (sym (at_without nodes n k t.items.0 ∙ rw miss refl))
] ∙ sym (at_with (without_numbered_node nodes n) n node k))

pub again_table : (nodes : List Numbered) (n : ℕ) (node : Node) → IsNodeTable nodes → IsNodeTable (with_numbered_node nodes n node) → IsNodeTable (with_numbered_node (without_numbered_node nodes n) n node)
again_table nodes n node t u =
    let ok = item_at (with_numbered_node nodes n node) n node u.items (at_with nodes n node n ∙ rw (at_self n) refl) in
    same_table (with_numbered_node nodes n node) (with_numbered_node (without_numbered_node nodes n) n node) u (with_items (without_numbered_node nodes n) n node ok (without_items nodes n t.items)) (λ k. sym (again nodes n node t k))

-- the number and the node that a moved node had
pub moved_alias_table : (nodes : List Numbered) (old new : Path) (n : ℕ) (node : Node) → IsNodeTable nodes → first_cause (edit_causes (tree_of nodes) (RenameAliasEntry old new)) ≡ None → IsMoved nodes old new n node → IsTrue (are_parts new) → IsNodeTable (with_numbered_node nodes n node)
moved_alias_table nodes old new n node t e m parts =
    let a = renames_alias nodes old new t e in
    let f = named_file nodes old t a.file in
    let same : f.0 ≡ n = some_is f.0 n (sym f.2 ∙ m.at) in
    let was : node_at nodes n ≡ Some f.1 = ap (λ (k : ℕ). node_at nodes k) (sym same) ∙ f.3 in
    let leaf = file_leaf nodes old n t a.file m.at in
    let mid = gone_table nodes n t leaf in
    let gone = one_gone nodes n t leaf in
    let both = new_without nodes n new f.1 t mid gone was f.5 a.free in
    let free = both.0 in
    let hangs = hangs_without nodes n new node a.free free both.1 m.hangs in
    let item = item_at nodes n m.was t.items m.was_at in
    let range = number_is_some n m.was item in
    let ok = hung_is_item nodes new n node t a.free m.hangs parts range.0 range.1 (subst (λ (k : ℕ). k < 2 ^ 32) (sym m.file_is) (file_is_small n m.was item)) in
    let put = put_keeps_table (without_numbered_node nodes n) n node mid (gone.left n (at_self n)) ok (hung_may (without_numbered_node nodes n) new node free hangs) (hung_free (without_numbered_node nodes n) new node free hangs) in
    same_table (with_numbered_node (without_numbered_node nodes n) n node) (with_numbered_node nodes n node) put (with_items nodes n node ok t.items) (again nodes n node t)
