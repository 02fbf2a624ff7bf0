-- The nodes of a new name are put one below the other.
use Rattle.std.proofs.Common.{◌≡◌, ℕ, ◌+◌, ◌<◌, ◌≤◌, ◌^◌, true, false, List, [], ◌∷◌, ◌++◌, length, take, drop, get_or, Option, Some, None, refl, sym, ap, subst, ◌∙◌, arith, inl, inr, length-append}
use Rattle.std.specs.FinMap as maps
use Rattle.std.specs.List.{All, list_all}
use Rattle.std.proofs.Math.Seq.{take-length, drop-length}
use Rattle.std.proofs.lemmas.Bool.{true≢false, and_parts}
use Rattle.std.proofs.lemmas.List.Elements.{All-append, All-nil}
use Rattle.std.proofs.lemmas.List.Folds.{list_all_at}
use Rattle.asm_group.specs.declared.NodeKind.TheVariants.{Directory, System}
use Rattle.asm_group.specs.Names.{Bytes, Path, folded, folded_path, is_part}
use Rattle.asm_group.specs.Causes.{first_cause}
use Rattle.asm_group.specs.Group.{TreeEntry}
use Rattle.asm_group.specs.Group as group
use Rattle.asm_group.specs.TreeEdits.{Tree, up, last_part, is_root}
use Rattle.asm_formats.specs.Items.{Node, node_item, is_item}
use Rattle.asm_formats.specs.Nodes.{entry_of_node}
use Rattle.alias_edits.specs.Edits.{are_parts, HangsAt}
use Rattle.alias_edits.specs.Filing.{missing_dirs, nodes_missing, file_causes, with_dir, with_dirs, with_file, with_nodes, may_hang, IsFiling, IsFree, IsFront}
use Rattle.alias_tree.specs.Numbers.{IsFreeAbove}
use Rattle.alias_tree.specs.Nodes.{Numbered, node_at, number_of, with_numbered_node, child, kind_is_directory, IsNodeTable}
use Rattle.alias_tree.specs.Trees.{tree_of, number_by}
use Rattle.alias_edits.proofs.Allowed.{IsNew, folded_last, last_is_part, number_is}
use Rattle.alias_edits.proofs.Done.{parent_small}
use Rattle.alias_edits.proofs.Edited.{put_tree, placed, entry_as}
use Rattle.alias_edits.proofs.Fronts.{number_none, absent, drop_first, may_is, more_root, name_may, name_new, number_more, some_root, take_more, whole_path}
use Rattle.alias_tree.proofs.IndexLaws.{either, at_self, not_at}
use Rattle.alias_tree.proofs.Keeping.{MayHang, at_with, none_below_new, put_keeps_table}
use Rattle.alias_tree.proofs.Paths.{last_append, up_append}
use Rattle.alias_tree.proofs.Readings.{hung_item}
use Rattle.alias_tree.proofs.Ways.{child_found}

-- ---- one node

-- a node may be put below the end of a path, under a name that isn't there
record Place (nodes : List Numbered) (front : Path) (x : Bytes) (parent n : ℕ) (node : Node) : Type 0 where
  table : IsNodeTable nodes
  at : number_by nodes 0 (folded_path front) ≡ Some parent
  may : MayHang nodes parent
  missing : child nodes parent (folded x) ≡ None
  free : node_at nodes n ≡ None
  some : 0 < n
  small : n < 2 ^ 32
  parent_is : node.parent ≡ parent
  name_is : node.name ≡ x
  part : is_part 80 x ≡ true
  file_small : node.file < 2 ^ 32

-- what stands once it is put
record Put (nodes : List Numbered) (front : Path) (x : Bytes) (n : ℕ) (node : Node) : Type 0 where
  table : IsNodeTable (with_numbered_node nodes n node)
  tree : tree_of (with_numbered_node nodes n node) ≡ maps.insert (tree_of nodes) (folded_path (front ++ x ∷ [])) (entry_of_node node)
  at : number_by (with_numbered_node nodes n node) 0 (folded_path (front ++ x ∷ [])) ≡ Some n
  there : node_at (with_numbered_node nodes n node) n ≡ Some node
  leaf : (name : Bytes) → child (with_numbered_node nodes n node) n name ≡ None
  item : is_item (node_item n node) ≡ true

put_below : (nodes : List Numbered) (front : Path) (x : Bytes) (parent n : ℕ) (node : Node) → Place nodes front x parent n node → Put nodes front x n node
put_below nodes front x parent n node p = record { table = table; tree = put_tree nodes path n node p.table table new hangs p.free; at = (placed nodes path n node p.table table new hangs p.free).at; there = there; leaf = leaf; item = ok } where
  path : Path
  path = front ++ x ∷ []

  above_is : up path ≡ front
  above_is = up_append front x

  last_is : last_part path ≡ x
  last_is = last_append front x

  new : IsNew nodes path
  new = record {
    parent = parent;
    above = ap (λ (q : Path). number_by nodes 0 (folded_path q)) above_is ∙ p.at;
    may = p.may;
    key = folded_last path (more_root front x);
    free = ap (λ (y : Bytes). child nodes parent (folded y)) last_is ∙ p.missing;
  }

  hangs : HangsAt nodes path node
  hangs = record {
    above = number_is nodes (up path) ∙ (ap (λ (q : Path). number_by nodes 0 (folded_path q)) above_is ∙ (p.at ∙ ap (λ (k : ℕ). Some k) (sym p.parent_is)));
    name = p.name_is ∙ sym last_is;
  }

  may : MayHang nodes node.parent
  may = subst (λ (k : ℕ). MayHang nodes k) (sym p.parent_is) p.may

  ok : is_item (node_item n node) ≡ true
  ok = hung_item n node p.some p.small (parent_small nodes node.parent p.table may) p.file_small (subst (λ (y : Bytes). is_part 80 y ≡ true) (sym p.name_is) p.part)

  table : IsNodeTable (with_numbered_node nodes n node)
  table = put_keeps_table nodes n node p.table p.free ok may (ap (λ (k : ℕ). child nodes k (folded node.name)) p.parent_is ∙ (ap (λ (y : Bytes). child nodes parent (folded y)) p.name_is ∙ p.missing))

  there : node_at (with_numbered_node nodes n node) n ≡ Some node
  there = at_with nodes n node n ∙ rw (at_self n) refl

  leaf : (name : Bytes) → child (with_numbered_node nodes n node) n name ≡ None
  leaf name = one (child (with_numbered_node nodes n node) n name) refl where
    one : (o : Option ℕ) → child (with_numbered_node nodes n node) n name ≡ o → o ≡ None
    one None f = refl
    one (Some m) f =
        let c = child_found (with_numbered_node nodes n node) n name m table f in
        absurd (none_below_new nodes n node p.table p.free ok may m c.node c.at c.parent_is)

-- ---- one after the other

pub with_more : (nodes made : List Numbered) (n : ℕ) (node : Node) → with_nodes nodes (made ++ (n, node) ∷ []) ≡ with_numbered_node (with_nodes nodes made) n node
with_more nodes [] n node = refl
with_more nodes (x ∷ made) n node = with_more (with_numbered_node nodes x.0 x.1) made n node

-- some of the directories that were missing are made
pub record SoFar (nodes made : List Numbered) (path : Path) (i parent before : ℕ) : Type 0 where
  pub before_table : IsNodeTable nodes
  pub table : IsNodeTable (with_nodes nodes made)
  pub at : number_by (with_nodes nodes made) 0 (folded_path (take i (up path))) ≡ Some parent
  pub may : MayHang (with_nodes nodes made) parent
  pub missing : (d : Bytes) → i < length (up path) → child (with_nodes nodes made) parent (folded (get_or (up path) i d)) ≡ None
  pub free : IsFree (with_nodes nodes made) path i parent
  pub tree : with_dirs (tree_of (with_nodes nodes made)) (take i (up path)) (drop i (up path)) ≡ with_dirs (tree_of nodes) [] (up path)
  pub above : (k : ℕ) → before < k → node_at (with_nodes nodes made) k ≡ node_at nodes k
  pub fresh : All (λ (x : Numbered). node_at nodes x.0 ≡ None) made
  pub dirs : All (λ (x : Numbered). x.1.kind ≡ Directory) made
  pub items : All (λ (x : Numbered). is_item (node_item x.0 x.1) ≡ true) made
  pub few : length made ≤ i
  -- the next directory was missing
  pub away : (d : Bytes) → i < length (up path) → number_by nodes 0 (folded_path (take i (up path) ++ get_or (up path) i d ∷ [])) ≡ None
  pub count : length made + missing_dirs (tree_of nodes) (take i (up path)) (drop i (up path)) ≡ missing_dirs (tree_of nodes) [] (up path)

pub so_far_none : (nodes : List Numbered) (path : Path) (k a : ℕ) → IsNodeTable nodes → IsFront nodes (up path) k a → may_hang nodes a ≡ true → IsFree nodes path k a → SoFar nodes [] path k a 0
so_far_none nodes path k a t f may free = record {
  before_table = t;
  table = t;
  at = f.reach.at;
  may = may_is nodes a may;
  missing = f.missing;
  free = free;
  tree = f.reach.made;
  above = λ k less. refl;
  fresh = All-nil (λ (x : Numbered). node_at nodes x.0 ≡ None);
  dirs = All-nil (λ (x : Numbered). x.1.kind ≡ Directory);
  items = All-nil (λ (x : Numbered). is_item (node_item x.0 x.1) ≡ true);
  few = omega arith;
  away = λ d less. number_more nodes (take k (up path)) (get_or (up path) k d) a f.reach.at ∙ f.missing d less;
  count = (let m = f.reach.missing in omega arith);
}

All-one : (P : Numbered → Type 0) (x : Numbered) → P x → All P (x ∷ [])
All-one P x p k d h = subst (λ (y : Numbered). P y) (one k h) p where
  one : (k : ℕ) → k < 1 → x ≡ get_or (x ∷ []) k d
  one k h = let z : k ≡ 0 = omega arith in rw z refl

up_parts : (path : Path) → list_all (is_part 80) path ≡ true → list_all (is_part 80) (up path) ≡ true
up_parts [] e = refl
up_parts (x ∷ []) e = refl
up_parts (x ∷ y ∷ path) e =
    let both = and_parts (is_part 80 x) (list_all (is_part 80) (y ∷ path)) e in
    rw (both.0, up_parts (y ∷ path) both.1) refl

dir_part : (path : Path) (i : ℕ) (d : Bytes) → are_parts path ≡ true → i < length (up path) → is_part 80 (get_or (up path) i d) ≡ true
dir_part path i d e h = elim (either (is_part 80 (get_or (up path) i d))) [
  | inl held ↦ held
  | inr other ↦ absurd (true≢false (sym (up_parts path e) ∙ list_all_at (is_part 80) (up path) i d h other))
]

-- a number that is free above all that were made
free_still : (nodes made : List Numbered) (path : Path) (i parent before n : ℕ) → SoFar nodes made path i parent before → IsFreeAbove nodes before n → node_at (with_nodes nodes made) n ≡ None
free_still nodes made path i parent before n s f = s.above n f.above ∙ f.free

above_more : (nodes made : List Numbered) (path : Path) (i parent before n : ℕ) (node : Node) → SoFar nodes made path i parent before → before < n → (k : ℕ) → n < k → node_at (with_numbered_node (with_nodes nodes made) n node) k ≡ node_at nodes k
above_more nodes made path i parent before n node s less k past =
    at_with (with_nodes nodes made) n node k ∙ (rw (not_at n k (λ z. omega arith)) (s.above k (omega arith)))

-- A directory more is made.
pub dir_more : (nodes made : List Numbered) (path : Path) (i parent before n : ℕ) (part : Bytes) (node : Node) → SoFar nodes made path i parent before → are_parts path ≡ true → i < length (up path) → part ≡ get_or (up path) i part
    → IsFreeAbove nodes before n → n < 2 ^ 32 → node.parent ≡ parent → node.name ≡ part → node.kind ≡ Directory → node.file ≡ 0 → SoFar nodes (made ++ (n, node) ∷ []) path (i + 1) n n
dir_more nodes made path i parent before n part node s parts h is f small parent_is name_is kind_is file_is = record {
  before_table = s.before_table;
  table = subst IsNodeTable (sym more) put.table;
  at = ap (λ (ns : List Numbered). number_by ns 0 (folded_path (take (i + 1) (up path)))) more ∙ (ap (λ (q : Path). number_by (with_numbered_node old n node) 0 (folded_path q)) front ∙ put.at);
  may = inr (node, ap (λ (ns : List Numbered). node_at ns n) more ∙ put.there, ap kind_is_directory kind_is);
  missing = λ d less. ap (λ (ns : List Numbered). child ns n (folded (get_or (up path) (i + 1) d))) more ∙ put.leaf (folded (get_or (up path) (i + 1) d));
  free = λ all. ap (λ (ns : List Numbered). child ns n (folded (last_part path))) more ∙ put.leaf (folded (last_part path));
  tree = tree;
  above = λ k past. ap (λ (ns : List Numbered). node_at ns k) more ∙ above_more nodes made path i parent before n node s f.above k past;
  fresh = All-append (λ (x : Numbered). node_at nodes x.0 ≡ None) made ((n, node) ∷ []) s.fresh (All-one (λ (x : Numbered). node_at nodes x.0 ≡ None) (n, node) f.free);
  dirs = All-append (λ (x : Numbered). x.1.kind ≡ Directory) made ((n, node) ∷ []) s.dirs (All-one (λ (x : Numbered). x.1.kind ≡ Directory) (n, node) kind_is);
  items = All-append (λ (x : Numbered). is_item (node_item x.0 x.1) ≡ true) made ((n, node) ∷ []) s.items (All-one (λ (x : Numbered). is_item (node_item x.0 x.1) ≡ true) (n, node) put.item);
  few = (let l = s.few in omega (arith, length-append made ((n, node) ∷ [])));
  away = λ d less. ap (λ (q : Path). number_by nodes 0 (folded_path (q ++ get_or (up path) (i + 1) d ∷ []))) front ∙ number_none nodes (take i (up path) ++ part ∷ []) (get_or (up path) (i + 1) d) lost;
  count = count;
} where
  old : List Numbered
  old = with_nodes nodes made

  more : with_nodes nodes (made ++ (n, node) ∷ []) ≡ with_numbered_node (with_nodes nodes made) n node
  more = with_more nodes made n node

  front : take (i + 1) (up path) ≡ take i (up path) ++ part ∷ []
  front = take_more i (up path) part h ∙ ap (λ (x : Bytes). take i (up path) ++ x ∷ []) (sym is)

  left : drop i (up path) ≡ part ∷ drop (i + 1) (up path)
  left = drop_first i (up path) part h ∙ ap (λ (x : Bytes). x ∷ drop (i + 1) (up path)) (sym is)

  lost : number_by nodes 0 (folded_path (take i (up path) ++ part ∷ [])) ≡ None
  lost = ap (λ (x : Bytes). number_by nodes 0 (folded_path (take i (up path) ++ x ∷ []))) is ∙ s.away part h

  one_less : missing_dirs (tree_of nodes) (take i (up path)) (drop i (up path)) ≡ 1 + missing_dirs (tree_of nodes) (take (i + 1) (up path)) (drop (i + 1) (up path))
  one_less =
      ap (λ (q : Path). missing_dirs (tree_of nodes) (take i (up path)) q) left
      ∙ (rw (absent nodes (take i (up path) ++ part ∷ []) s.before_table (more_root (take i (up path)) part) lost) refl ∙ ap (λ (q : Path). 1 + missing_dirs (tree_of nodes) q (drop (i + 1) (up path))) (sym front))

  count : length (made ++ (n, node) ∷ []) + missing_dirs (tree_of nodes) (take (i + 1) (up path)) (drop (i + 1) (up path)) ≡ missing_dirs (tree_of nodes) [] (up path)
  count = let c = s.count in omega (arith, length-append made ((n, node) ∷ []), one_less)

  missing : child (with_nodes nodes made) parent (folded part) ≡ None
  missing = ap (λ (x : Bytes). child (with_nodes nodes made) parent (folded x)) is ∙ s.missing part h

  put : Put (with_nodes nodes made) (take i (up path)) part n node
  put = put_below (with_nodes nodes made) (take i (up path)) part parent n node (record {
    table = s.table;
    at = s.at;
    may = s.may;
    missing = missing;
    free = free_still nodes made path i parent before n s f;
    some = (let less : before < n = f.above in omega arith);
    small = small;
    parent_is = parent_is;
    name_is = name_is;
    part = subst (λ (x : Bytes). is_part 80 x ≡ true) (sym is) (dir_part path i part parts h);
    file_small = (let zero : node.file ≡ 0 = file_is in omega arith);
  })

  entry : entry_of_node node ≡ record { name = last_part (take i (up path) ++ part ∷ []); node = group.Dir }
  entry = entry_as node (last_part (take i (up path) ++ part ∷ [])) Directory 0 (name_is ∙ sym (last_append (take i (up path)) part)) kind_is file_is

  stands : with_dir (tree_of (with_nodes nodes made)) (take i (up path) ++ part ∷ []) ≡ tree_of (with_numbered_node (with_nodes nodes made) n node)
  stands =
      rw (absent (with_nodes nodes made) (take i (up path) ++ part ∷ []) s.table (more_root (take i (up path)) part) (number_more (with_nodes nodes made) (take i (up path)) part parent s.at ∙ missing))
      (ap (λ (x : TreeEntry). maps.insert (tree_of (with_nodes nodes made)) (folded_path (take i (up path) ++ part ∷ [])) x) (sym entry) ∙ sym put.tree)

  tree : with_dirs (tree_of (with_nodes nodes (made ++ (n, node) ∷ []))) (take (i + 1) (up path)) (drop (i + 1) (up path)) ≡ with_dirs (tree_of nodes) [] (up path)
  tree =
      ap (λ (ns : List Numbered). with_dirs (tree_of ns) (take (i + 1) (up path)) (drop (i + 1) (up path))) more
      ∙ (ap (λ (q : Path). with_dirs (tree_of (with_numbered_node (with_nodes nodes made) n node)) q (drop (i + 1) (up path))) front
      ∙ (ap (λ (u : Tree). with_dirs u (take i (up path) ++ part ∷ []) (drop (i + 1) (up path))) (sym stands)
      ∙ (ap (λ (q : Path). with_dirs (tree_of (with_nodes nodes made)) (take i (up path)) q) (sym left) ∙ s.tree)))

-- ---- the name

-- all nodes are made
pub record AllMade (nodes made : List Numbered) (path : Path) (file : ℕ) : Type 0 where
  pub table : IsNodeTable (with_nodes nodes made)
  pub tree : tree_of (with_nodes nodes made) ≡ with_file (tree_of nodes) path file
  pub filing : IsFiling nodes made path file
  pub few : length made ≤ length path
  pub count : length made ≡ nodes_missing (tree_of nodes) path
  pub fresh : All (λ (x : Numbered). node_at nodes x.0 ≡ None) made
  pub items : All (λ (x : Numbered). is_item (node_item x.0 x.1) ≡ true) made

pub name_more : (nodes made : List Numbered) (path : Path) (i parent before n file : ℕ) (node : Node) → SoFar nodes made path i parent before → are_parts path ≡ true → 0 < length path → i ≡ length (up path)
    → IsFreeAbove nodes before n → n < 2 ^ 32 → node.parent ≡ parent → node.name ≡ last_part path → node.kind ≡ System → node.file ≡ file → file < 2 ^ 32 → AllMade nodes (made ++ (n, node) ∷ []) path file
name_more nodes made path i parent before n file node s parts some end f small parent_is name_is kind_is file_is file_small = record {
  table = subst IsNodeTable (sym more) put.table;
  tree = tree;
  filing = record { dirs = made; number = n; node = node; split = refl; dirs_are = s.dirs; kind_is = kind_is; file_is = file_is; name_is = name_is; at = at };
  few = (let l = s.few in let one : length path ≡ length (up path) + 1 = ap (λ (q : Path). length q) whole ∙ length-append (up path) (last_part path ∷ []) in omega (arith, length-append made ((n, node) ∷ [])));
  count = (let c = s.count in let none : missing_dirs (tree_of nodes) (take i (up path)) (drop i (up path)) ≡ 0 = ap (λ (q : Path). missing_dirs (tree_of nodes) (take i (up path)) q) left in omega (arith, length-append made ((n, node) ∷ []), none));
  fresh = All-append (λ (x : Numbered). node_at nodes x.0 ≡ None) made ((n, node) ∷ []) s.fresh (All-one (λ (x : Numbered). node_at nodes x.0 ≡ None) (n, node) f.free);
  items = All-append (λ (x : Numbered). is_item (node_item x.0 x.1) ≡ true) made ((n, node) ∷ []) s.items (All-one (λ (x : Numbered). is_item (node_item x.0 x.1) ≡ true) (n, node) put.item);
} where
  root : is_root path ≡ false
  root = some_root path some

  whole : path ≡ up path ++ last_part path ∷ []
  whole = whole_path path root

  more : with_nodes nodes (made ++ (n, node) ∷ []) ≡ with_numbered_node (with_nodes nodes made) n node
  more = with_more nodes made n node

  front : take i (up path) ≡ up path
  front = ap (λ (k : ℕ). take k (up path)) end ∙ take-length (up path)

  left : drop i (up path) ≡ []
  left = ap (λ (k : ℕ). drop k (up path)) end ∙ drop-length (up path)

  put : Put (with_nodes nodes made) (up path) (last_part path) n node
  put = put_below (with_nodes nodes made) (up path) (last_part path) parent n node (record {
    table = s.table;
    at = ap (λ (q : Path). number_by (with_nodes nodes made) 0 (folded_path q)) (sym front) ∙ s.at;
    may = s.may;
    missing = s.free end;
    free = free_still nodes made path i parent before n s f;
    some = (let less : before < n = f.above in omega arith);
    small = small;
    parent_is = parent_is;
    name_is = name_is;
    part = last_is_part path root parts;
    file_small = (let same : node.file ≡ file = file_is in omega arith);
  })

  at : number_of (with_nodes nodes (made ++ (n, node) ∷ [])) path ≡ Some n
  at =
      ap (λ (ns : List Numbered). number_of ns path) more
      ∙ (number_is (with_numbered_node (with_nodes nodes made) n node) path ∙ (ap (λ (q : Path). number_by (with_numbered_node (with_nodes nodes made) n node) 0 (folded_path q)) whole ∙ put.at))

  dirs : tree_of (with_nodes nodes made) ≡ with_dirs (tree_of nodes) [] (up path)
  dirs =
      sym (ap (λ (q : Path). with_dirs (tree_of (with_nodes nodes made)) (take i (up path)) q) left) ∙ s.tree

  entry : entry_of_node node ≡ record { name = last_part path; node = group.System file }
  entry = entry_as node (last_part path) System file name_is kind_is file_is

  tree : tree_of (with_nodes nodes (made ++ (n, node) ∷ [])) ≡ with_file (tree_of nodes) path file
  tree =
      ap tree_of more
      ∙ (put.tree
      ∙ (ap (λ (q : Path). maps.insert (tree_of (with_nodes nodes made)) (folded_path q) (entry_of_node node)) (sym whole)
      ∙ (ap (λ (x : TreeEntry). maps.insert (tree_of (with_nodes nodes made)) (folded_path path) x) entry
      ∙ ap (λ (u : Tree). maps.insert u (folded_path path) (record { name = last_part path; node = group.System file })) dirs)))

-- ---- the same, by what the steps of the code give

pub none_made : (nodes made : List Numbered) (path : Path) (k a : ℕ) → IsNodeTable nodes → 0 < length path → IsFront nodes (up path) k a → first_cause (file_causes (tree_of nodes) path) ≡ None → made ≡ [] → SoFar nodes made path k a 0
none_made nodes made path k a t some f e none =
    subst (λ (m : List Numbered). SoFar nodes m path k a 0) (sym none) (so_far_none nodes path k a t f (name_may nodes path k a t f e) (name_new nodes path k a t some f e))

pub dir_made : (nodes made new : List Numbered) (path dirs : Path) (i parent before n : ℕ) (part : Bytes) (node : Node) → dirs ≡ up path → SoFar nodes made path i parent before → are_parts path ≡ true → i < length dirs → part ≡ get_or dirs i part
    → IsFreeAbove nodes before n → n < 2 ^ 32 → node.parent ≡ parent → node.name ≡ part → node.kind ≡ Directory → node.file ≡ 0 → new ≡ made ++ (n, node) ∷ [] → SoFar nodes new path (i + 1) n n
dir_made nodes made new path dirs i parent before n part node d s parts h is f small parent_is name_is kind_is file_is e =
    subst (λ (m : List Numbered). SoFar nodes m path (i + 1) n n) (sym e)
    (dir_more nodes made path i parent before n part node s parts (subst (λ (q : Path). i < length q) d h) (subst (λ (q : Path). part ≡ get_or q i part) d is) f small parent_is name_is kind_is file_is)

pub name_made : (nodes made new : List Numbered) (path dirs : Path) (i parent before n file : ℕ) (node : Node) → dirs ≡ up path → SoFar nodes made path i parent before → are_parts path ≡ true → 0 < length path → i ≡ length dirs
    → IsFreeAbove nodes before n → n < 2 ^ 32 → node.parent ≡ parent → (name : Bytes) → node.name ≡ name → name ≡ last_part path → node.kind ≡ System → node.file ≡ file → file < 2 ^ 32 → new ≡ made ++ (n, node) ∷ [] → AllMade nodes new path file
name_made nodes made new path dirs i parent before n file node d s parts some end f small parent_is name name_is last kind_is file_is file_small e =
    subst (λ (m : List Numbered). AllMade nodes m path file) (sym e)
    (name_more nodes made path i parent before n file node s parts some (end ∙ ap (λ (q : Path). length q) d) f small parent_is (name_is ∙ last) kind_is file_is file_small)
