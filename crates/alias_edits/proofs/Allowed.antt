-- What an edit may rest on that isn't refused.
use Rattle.std.proofs.Common.{◌≡◌, ℕ, Bool, true, false, List, [], ◌∷◌, ◌++◌, Option, Some, None, refl, sym, ap, ◌∙◌, inl, inr}
use Rattle.std.specs.Prelude.{is_some, not, ◌||◌}
use Rattle.std.specs.List.{list_all}
use Rattle.std.proofs.lemmas.Bool.{and_parts, true≢false}
use Rattle.std.proofs.lemmas.Option.{none-some}
use Rattle.asm_group.specs.declared.NodeKind.{NodeKind}
use Rattle.asm_group.specs.declared.NodeKind.TheVariants.{Directory, System, Alias}
use Rattle.asm_group.specs.Names.{Path, folded, folded_path, is_part}
use Rattle.asm_group.specs.Group.{TreeEntry}
use Rattle.asm_group.specs.Refusal.{Refusal}
use Rattle.asm_group.specs.Refusal as r
use Rattle.asm_group.specs.Causes.{Causes, first_cause}
use Rattle.asm_group.specs.TreeEdits.{up, last_part, is_root, is_there, is_dir, is_dir_node, is_dir_entry, entry_at, lacks_parent, new_name_causes}
use Rattle.asm_formats.specs.Items.{Node}
use Rattle.alias_tree.proofs.asm_base.Exact.{some_is}
use Rattle.alias_tree.specs.Nodes.{Numbered, node_at, number_of, is_directory, kind_is_directory, IsNodeTable, child}
use Rattle.asm_formats.specs.Nodes.{node_kind, entry_of_node}
use Rattle.alias_tree.specs.Trees.{tree_of, number_by}
use Rattle.alias_tree.proofs.Keeping.{MayHang}
use Rattle.alias_tree.proofs.Leading.{shown_node, shows}
use Rattle.alias_tree.proofs.Ways.{child_found, by_folded, by_last}
use Rattle.alias_tree.proofs.Lookups.{not_root, root_is, there_number}

-- ---- tests that are false

pub no_cause : (b : Bool) (cause : Refusal) (causes : Causes) → first_cause ((b, cause) ∷ causes) ≡ None → (b ≡ false) × (first_cause causes ≡ None)
no_cause true cause causes e = absurd (none-some cause (sym e))
no_cause false cause causes e = (refl, e)

pub two_false : (a b : Bool) (x y : Refusal) → first_cause ((a, x) ∷ (b, y) ∷ []) ≡ None → (a ≡ false) × (b ≡ false)
two_false a b x y e =
    let one = no_cause a x ((b, y) ∷ []) e in
    (one.0, (no_cause b y [] one.1).0)

pub three_false : (a b c : Bool) (x y z : Refusal) → first_cause ((a, x) ∷ (b, y) ∷ (c, z) ∷ []) ≡ None → (a ≡ false) × (b ≡ false) × (c ≡ false)
three_false a b c x y z e =
    let one = no_cause a x ((b, y) ∷ (c, z) ∷ []) e in
    let more = two_false b c y z one.1 in
    (one.0, more.0, more.1)

pub four_false : (a b c d : Bool) (x y z w : Refusal) → first_cause ((a, x) ∷ (b, y) ∷ (c, z) ∷ (d, w) ∷ []) ≡ None → (a ≡ false) × (b ≡ false) × (c ≡ false) × (d ≡ false)
four_false a b c d x y z w e =
    let one = no_cause a x ((b, y) ∷ (c, z) ∷ (d, w) ∷ []) e in
    let more = three_false b c d y z w one.1 in
    (one.0, more.0, more.1, more.2)

pub both_false : (a b : Bool) → (a || b) ≡ false → (a ≡ false) × (b ≡ false)
both_false true b e = absurd (true≢false e)
both_false false b e = (refl, e)

pub not_false : (b : Bool) → not b ≡ false → b ≡ true
not_false true e = refl
not_false false e = absurd (true≢false e)

-- ---- paths

pub number_is : (nodes : List Numbered) (path : Path) → number_of nodes path ≡ number_by nodes 0 (folded_path path)
unfolding number_of
number_is nodes path = by_folded nodes path 0

pub folded_last : (path : Path) → is_root path ≡ false → folded_path path ≡ folded_path (up path) ++ folded (last_part path) ∷ []
folded_last [] e = absurd (true≢false e)
folded_last (x ∷ []) e = refl
folded_last (x ∷ y ∷ path) e = ap (λ (p : Path). folded x ∷ p) (folded_last (y ∷ path) (not_root y path))

pub number_there : (nodes : List Numbered) (path : Path) (n : ℕ) (node : Node) → IsNodeTable nodes → number_by nodes 0 (folded_path path) ≡ Some n → node_at nodes n ≡ Some node → is_there (tree_of nodes) path ≡ true
number_there nodes path n node t e f = one (is_root path) (ap is_some (shows nodes (folded_path path) n node t e f)) where
  one : (b : Bool) → is_some (entry_at (tree_of nodes) path) ≡ true → (b || is_some (entry_at (tree_of nodes) path)) ≡ true
  one true h = refl
  one false h = h

pub dir_node : (node : Node) → is_dir_entry (Some (entry_of_node node)) ≡ is_directory node
dir_node node = of_kind node.kind where
  of_kind : (kind : NodeKind) → is_dir_node (node_kind kind node.file) ≡ kind_is_directory kind
  of_kind Directory = refl
  of_kind System = refl
  of_kind Alias = refl

-- what is a directory is the root or a directory's node
pub dir_hangs : (nodes : List Numbered) (path : Path) (p : ℕ) → IsNodeTable nodes → is_dir (tree_of nodes) path ≡ true → number_by nodes 0 (folded_path path) ≡ Some p → MayHang nodes p
dir_hangs nodes path p t e at = one (is_root path) refl e where
  one : (b : Bool) → is_root path ≡ b → (b || is_dir_entry (entry_at (tree_of nodes) path)) ≡ true → MayHang nodes p
  one true r h = inl (some_is p 0 (sym at ∙ ap (λ (q : Path). number_by nodes 0 (folded_path q)) (root_is path r)))
  one false r h = two (entry_at (tree_of nodes) path) refl h where
    two : (o : Option TreeEntry) → entry_at (tree_of nodes) path ≡ o → is_dir_entry o ≡ true → MayHang nodes p
    two None f h = absurd (true≢false (sym h))
    two (Some entry) f h =
        let s = shown_node nodes (folded_path path) t (ap is_some f) in
        let same : s.0 ≡ p = some_is s.0 p (sym s.2 ∙ at) in
        let is : entry_of_node s.1 ≡ entry = some_is (entry_of_node s.1) entry (sym (shows nodes (folded_path path) s.0 s.1 t s.2 s.3) ∙ f) in
        inr (s.1, ap (λ (k : ℕ). node_at nodes k) (sym same) ∙ s.3, sym (dir_node s.1) ∙ (ap (λ (x : TreeEntry). is_dir_entry (Some x)) is ∙ h))

-- ---- a new name

-- a new name may hang at the path
pub record IsNew (nodes : List Numbered) (path : Path) : Type 0 where
  pub parent : ℕ
  pub above : number_by nodes 0 (folded_path (up path)) ≡ Some parent
  pub may : MayHang nodes parent
  pub key : folded_path path ≡ folded_path (up path) ++ folded (last_part path) ∷ []
  pub free : child nodes parent (folded (last_part path)) ≡ None

pub is_new : (nodes : List Numbered) (path : Path) → IsNodeTable nodes → lacks_parent (tree_of nodes) path ≡ false → is_there (tree_of nodes) path ≡ false → not (is_dir (tree_of nodes) (up path)) ≡ false → IsNew nodes path
is_new nodes path t lacks there dir =
    let l = both_false (is_root path) (not (is_there (tree_of nodes) (up path))) lacks in
    let above = there_number nodes (up path) t (not_false (is_there (tree_of nodes) (up path)) l.1) in
    record {
      parent = above.0;
      above = above.1;
      may = dir_hangs nodes (up path) above.0 t (not_false (is_dir (tree_of nodes) (up path)) dir) above.1;
      key = folded_last path l.0;
      free = free above.0 above.1 (folded_last path l.0) (child nodes above.0 (folded (last_part path))) refl;
    }
  where
    free : (parent : ℕ) → number_by nodes 0 (folded_path (up path)) ≡ Some parent → folded_path path ≡ folded_path (up path) ++ folded (last_part path) ∷ [] → (o : Option ℕ) → child nodes parent (folded (last_part path)) ≡ o → o ≡ None
    free parent above key None e = refl
    free parent above key (Some c) e =
        let f = child_found nodes parent (folded (last_part path)) c t e in
        let at : number_by nodes 0 (folded_path path) ≡ Some c = ap (λ (p : Path). number_by nodes 0 p) key ∙ (by_last nodes (folded_path (up path)) (folded (last_part path)) 0 parent above ∙ e) in
        absurd (true≢false (sym (number_there nodes path c f.node t at f.at) ∙ there))

pub new_name : (nodes : List Numbered) (path : Path) → IsNodeTable nodes → first_cause (new_name_causes (tree_of nodes) path) ≡ None → IsNew nodes path
new_name nodes path t e =
    let f = three_false (lacks_parent (tree_of nodes) path) (is_there (tree_of nodes) path) (not (is_dir (tree_of nodes) (up path))) r.NoName r.NameTaken r.NotDirectory e in
    is_new nodes path t f.0 f.1 f.2

pub new_lacks : (nodes : List Numbered) (path : Path) → first_cause (new_name_causes (tree_of nodes) path) ≡ None → lacks_parent (tree_of nodes) path ≡ false
new_lacks nodes path e = (three_false (lacks_parent (tree_of nodes) path) (is_there (tree_of nodes) path) (not (is_dir (tree_of nodes) (up path))) r.NoName r.NameTaken r.NotDirectory e).0

-- ---- a node that hangs at a new name

pub last_is_part : (path : Path) → is_root path ≡ false → list_all (is_part 80) path ≡ true → is_part 80 (last_part path) ≡ true
last_is_part [] r e = absurd (true≢false r)
last_is_part (x ∷ []) r e = (and_parts (is_part 80 x) true e).0
last_is_part (x ∷ y ∷ path) r e = last_is_part (y ∷ path) (not_root y path) (and_parts (is_part 80 x) (list_all (is_part 80) (y ∷ path)) e).1
