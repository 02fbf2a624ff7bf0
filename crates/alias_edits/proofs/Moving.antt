-- A directory moves with all that lies below it.
use Rattle.std.proofs.Common.{◌≡◌, ℕ, zero, suc, ◌+◌, ◌<◌, ◌^◌, Bool, true, false, List, [], ◌∷◌, ◌++◌, length, Some, None, refl, sym, ap, subst, ◌∙◌, arith, inl, inr, ◌⊎◌, append_assoc}
use Rattle.std.specs.Prelude.{is_some, not, ◌||◌, IsTrue}
use Rattle.std.specs.BTreeMap.{is_at}
use Rattle.std.specs.Ordering.{nat_cmp}
use Rattle.std.proofs.lemmas.Bool.{true≢false}
use Rattle.std.proofs.lemmas.List.{append-nil}
use Rattle.std.proofs.lemmas.Option.{none-some}
use Rattle.asm_group.specs.Names.{Bytes, Path, folded, folded_path}
use Rattle.asm_group.specs.Refusal as r
use Rattle.asm_group.specs.Causes.{first_cause}
use Rattle.asm_group.specs.TreeEdits.{last_part, up, is_root, is_there, is_dir, is_dir_entry, is_under, entry_at, lacks_parent, edit_causes, RenameDir}
use Rattle.asm_formats.specs.Items.{Node, node_item, is_item}
use Rattle.alias_tree.specs.asm_base.Tables.{IsItemTable}
use Rattle.alias_tree.proofs.asm_base.Exact.{some_is}
use Rattle.alias_edits.specs.Edits.{IsMoved, are_parts}
use Rattle.alias_tree.specs.Nodes.{Numbered, item_of_node, is_before, node_at, with_numbered_node, is_directory, kind_is_directory, reaches_root, IsNodeTable}
use Rattle.alias_tree.specs.Trees.{tree_of, number_by}
use Rattle.alias_edits.proofs.Allowed.{three_false, both_false, not_false, number_is, dir_node, IsNew, is_new}
use Rattle.alias_edits.proofs.Done.{hung_may, hung_free, hung_parent, hung_is_item}
use Rattle.alias_tree.proofs.IndexLaws.{either, at_is, at_self, not_at, item_at}
use Rattle.alias_tree.proofs.Keeping.{at_with, with_items, new_or_was, MayHang, short_way}
use Rattle.alias_tree.proofs.Leading.{under_of, shows}
use Rattle.alias_tree.proofs.Readings.{number_is_some, file_is_small}
use Rattle.alias_tree.proofs.Rules.{at_root}
use Rattle.alias_tree.proofs.Ways.{at_zero, at_or_below, reaches_below, reaches_more, way, way_is, child_found, child_at, no_root, by_step, by_last}

-- ---- what isn't refused

pub record RenamesDir (nodes : List Numbered) (old new : Path) : Type 0 where
  pub there : is_some (entry_at (tree_of nodes) old) ≡ true
  pub dir : is_dir_entry (entry_at (tree_of nodes) old) ≡ true
  pub free : IsNew nodes new
  pub outside : is_under (folded_path old) (folded_path new) ≡ false

pub renames_dir : (nodes : List Numbered) (old new : Path) → IsNodeTable nodes → first_cause (edit_causes (tree_of nodes) (RenameDir old new)) ≡ None → RenamesDir nodes old new
renames_dir nodes old new t e =
    let f = three_false (is_root old || not (is_there (tree_of nodes) old) || lacks_parent (tree_of nodes) new) (is_there (tree_of nodes) new || is_under (folded_path old) (folded_path new))
    (not (is_dir (tree_of nodes) old) || not (is_dir (tree_of nodes) (up new))) r.NoName r.NameTaken r.NotDirectory e in
    let a = both_false (is_root old || not (is_there (tree_of nodes) old)) (lacks_parent (tree_of nodes) new) f.0 in
    let b = both_false (is_root old) (not (is_there (tree_of nodes) old)) a.0 in
    let c = both_false (is_there (tree_of nodes) new) (is_under (folded_path old) (folded_path new)) f.1 in
    let d = both_false (not (is_dir (tree_of nodes) old)) (not (is_dir (tree_of nodes) (up new))) f.2 in
    record {
      there = behind_root old (is_some (entry_at (tree_of nodes) old)) b.0 (not_false (is_there (tree_of nodes) old) b.1);
      dir = behind_root old (is_dir_entry (entry_at (tree_of nodes) old)) b.0 (not_false (is_dir (tree_of nodes) old) d.0);
      free = is_new nodes new t a.1 c.0 d.1;
      outside = c.1;
    }
  where
    behind_root : (path : Path) (b : Bool) → is_root path ≡ false → (is_root path || b) ≡ true → b ≡ true
    behind_root path b root e = rw root at e

-- ---- the way down to another node

-- a path that goes on lies below
under_more : (p before q : Path) (x : Bytes) → p ≡ before → is_under p ((before ++ q) ++ x ∷ []) ≡ true
under_more p before [] x is = subst (λ (w : Path). is_under w ((before ++ []) ++ x ∷ []) ≡ true) (sym is) (subst (λ (w : Path). is_under before (w ++ x ∷ []) ≡ true) (sym (append-nil before)) (under_of before x []))
under_more p before (y ∷ q) x is =
    subst (λ (w : Path). is_under w ((before ++ y ∷ q) ++ x ∷ []) ≡ true) (sym is) (subst (λ (w : Path). is_under before w ≡ true) (sym (append_assoc before (y ∷ q) (x ∷ []))) (under_of before y (q ++ x ∷ [])))

-- A way of nodes that doesn't come by this path: p is the path, and behind the way comes one name more.
-- The way from a to m goes on where it went.
way_stays : (nodes big : List Numbered) (n : ℕ) (p : Path) (x : Bytes) → IsNodeTable nodes → ((k : ℕ) → is_at (nat_cmp n) k ≡ false → node_at big k ≡ node_at nodes k) → number_by nodes 0 p ≡ Some n
    → (q before : Path) (a m k : ℕ) → number_by nodes 0 before ≡ Some a → number_by nodes a q ≡ Some m → is_under p ((before ++ q) ++ x ∷ []) ≡ false → reaches_root big k a ≡ true → reaches_root big (k + length q) m ≡ true
way_stays nodes big n p x t same at [] before a m k there e outside r =
    let none : k + 0 ≡ k = omega arith in
    subst (λ (i : ℕ). reaches_root big i m ≡ true) (sym none) (subst (λ (i : ℕ). reaches_root big k i ≡ true) (some_is a m e) r)
way_stays nodes big n p x t same at (y ∷ q) before a m k there e outside r =
    let s = by_step nodes y q a m e in
    let c = child_found nodes a y s.0 t s.1 in
    let here : number_by nodes 0 (before ++ y ∷ []) ≡ Some s.0 = by_last nodes before y 0 a there ∙ s.1 in
    let further : (before ++ y ∷ q) ++ x ∷ [] ≡ ((before ++ y ∷ []) ++ q) ++ x ∷ [] = ap (λ (z : Path). z ++ x ∷ []) (sym (append_assoc before (y ∷ []) q)) in
    let other : n ≡ s.0 → ⊥ = λ z.
    let is : p ≡ before ++ y ∷ [] = sym (way_is nodes p n t at) ∙ (ap (λ (i : ℕ). way nodes i) z ∙ way_is nodes (before ++ y ∷ []) s.0 t here) in
    true≢false (sym (under_more p (before ++ y ∷ []) q x is) ∙ (ap (λ (w : Path). is_under p w) (sym further) ∙ outside)) in
    let node : node_at big s.0 ≡ Some c.node = same s.0 (not_at n s.0 other) ∙ c.at in
    let count : k + suc (length q) ≡ suc k + length q = omega arith in
    subst (λ (i : ℕ). reaches_root big i m ≡ true) (sym count)
    (way_stays nodes big n p x t same at q (before ++ y ∷ []) s.0 m (suc k) here s.2 (ap (λ (w : Path). is_under p w) (sym further) ∙ outside)
    (reaches_below big k s.0 c.node node (subst (λ (i : ℕ). reaches_root big k i ≡ true) (sym c.parent_is) r)))

-- ---- the rule

-- a directory under another directory, which doesn't lie below it
pub moved_dir_table : (nodes : List Numbered) (old new : Path) (n : ℕ) (node : Node) → IsNodeTable nodes → first_cause (edit_causes (tree_of nodes) (RenameDir old new)) ≡ None → IsMoved nodes old new n node → IsTrue (are_parts new) → IsNodeTable (with_numbered_node nodes n node)
moved_dir_table nodes old new n node t none moved parts = record { items = items; rule = record { parents = parents; rooted = rooted; distinct = distinct } } where
  may : RenamesDir nodes old new
  may = renames_dir nodes old new t none

  at : number_by nodes 0 (folded_path old) ≡ Some n
  at = sym (number_is nodes old) ∙ moved.at

  ok : is_item (node_item n node) ≡ true
  ok =
      let item = item_at nodes n moved.was t.items moved.was_at in
      let range = number_is_some n moved.was item in
      hung_is_item nodes new n node t may.free moved.hangs parts range.0 range.1 (subst (λ (k : ℕ). k < 2 ^ 32) (sym moved.file_is) (file_is_small n moved.was item))

  items : IsItemTable is_before item_of_node (with_numbered_node nodes n node)
  items = with_items nodes n node ok t.items

  -- it is a directory still
  dir : IsTrue (is_directory node)
  dir =
      let entry = shows nodes (folded_path old) n moved.was t at moved.was_at in
      ap kind_is_directory moved.kind_is ∙ (sym (dir_node moved.was) ∙ (ap is_dir_entry (sym entry) ∙ may.dir))

  was : (m : ℕ) (x : Node) → node_at (with_numbered_node nodes n node) m ≡ Some x → ((m ≡ n) × (x ≡ node)) ⊎ ((m ≡ n → ⊥) × (node_at nodes m ≡ Some x))
  was m x e = new_or_was nodes n node m x e

  same : (k : ℕ) → is_at (nat_cmp n) k ≡ false → node_at (with_numbered_node nodes n node) k ≡ node_at nodes k
  same k miss = at_with nodes n node k ∙ rw miss refl

  here : node_at (with_numbered_node nodes n node) n ≡ Some node
  here = at_with nodes n node n ∙ rw (at_self n) refl

  parents : (m : ℕ) (x above : Node) → node_at (with_numbered_node nodes n node) m ≡ Some x → node_at (with_numbered_node nodes n node) x.parent ≡ Some above → IsTrue (is_directory above)
  parents m x above e f = elim (was x.parent above f) [
    | inl (z, is) ↦ subst (λ (y : Node). IsTrue (is_directory y)) (sym is) dir
    | inr (other, g) ↦ elim (was m x e) [
      | inl (z, is) ↦ hung (hung_may nodes new node may.free moved.hangs) (ap (λ (y : Node). node_at nodes y.parent) (sym is) ∙ g)
      | inr (apart, h) ↦ t.rule.parents m x above h g
    ]
  ] where
    hung : MayHang nodes node.parent → node_at nodes node.parent ≡ Some above → IsTrue (is_directory above)
    hung (inl z) g = absurd (none-some above (sym (no_root nodes t) ∙ (ap (λ (k : ℕ). node_at nodes k) (sym z) ∙ g)))
    hung (inr (y, h, d)) g = subst (λ (k : Node). IsTrue (is_directory k)) (some_is y above (sym h ∙ g)) d

  -- the new parent is reached without the directory
  above : reaches_root (with_numbered_node nodes n node) (0 + length (folded_path (up new))) node.parent ≡ true
  above =
      let key : folded_path new ≡ ([] ++ folded_path (up new)) ++ folded (last_part new) ∷ [] = may.free.key in
      subst (λ (k : ℕ). reaches_root (with_numbered_node nodes n node) (0 + length (folded_path (up new))) k ≡ true) (hung_parent nodes new node may.free moved.hangs)
      (way_stays nodes (with_numbered_node nodes n node) n (folded_path old) (folded (last_part new)) t same at (folded_path (up new)) [] 0 may.free.parent 0 refl may.free.above
      (ap (λ (p : Path). is_under (folded_path old) p) (sym key) ∙ may.outside) (at_root (with_numbered_node nodes n node) 0 0 refl))

  reach : (k m : ℕ) → reaches_root nodes k m ≡ true → reaches_root (with_numbered_node nodes n node) (k + suc (0 + length (folded_path (up new)))) m ≡ true
  reach zero m r = at_root (with_numbered_node nodes n node) (zero + suc (0 + length (folded_path (up new)))) m (at_zero nodes m r)
  reach (suc k) m r = elim (at_or_below nodes k m r) [
    | inl z ↦ at_root (with_numbered_node nodes n node) (suc k + suc (0 + length (folded_path (up new)))) m z
    | inr (x, e, h) ↦ elim (either (is_at (nat_cmp n) m)) [
      | inl hit ↦
          let count : suc (0 + length (folded_path (up new))) + suc k ≡ suc k + suc (0 + length (folded_path (up new))) = omega arith in
          subst (λ (i : ℕ). reaches_root (with_numbered_node nodes n node) i m ≡ true) count
          (reaches_more (with_numbered_node nodes n node) (suc (0 + length (folded_path (up new)))) (suc k) m
          (subst (λ (i : ℕ). reaches_root (with_numbered_node nodes n node) (suc (0 + length (folded_path (up new)))) i ≡ true) (at_is n m hit) (reaches_below (with_numbered_node nodes n node) (0 + length (folded_path (up new))) n node here above)))
      | inr miss ↦
          let count : suc (k + suc (0 + length (folded_path (up new)))) ≡ suc k + suc (0 + length (folded_path (up new))) = omega arith in
          subst (λ (i : ℕ). reaches_root (with_numbered_node nodes n node) i m ≡ true) count (reaches_below (with_numbered_node nodes n node) (k + suc (0 + length (folded_path (up new)))) m x (same m miss ∙ e) (reach k x.parent h))
    ]
  ]

  rooted : (m : ℕ) (x : Node) → node_at (with_numbered_node nodes n node) m ≡ Some x → IsTrue (reaches_root (with_numbered_node nodes n node) (length (with_numbered_node nodes n node)) m)
  rooted m x e = short_way (with_numbered_node nodes n node) (length nodes + suc (0 + length (folded_path (up new)))) m items (reach (length nodes) m (before (was m x e))) where
    before : (((m ≡ n) × (x ≡ node)) ⊎ ((m ≡ n → ⊥) × (node_at nodes m ≡ Some x))) → reaches_root nodes (length nodes) m ≡ true
    before (inl (z, is)) = t.rule.rooted m moved.was (ap (λ (k : ℕ). node_at nodes k) z ∙ moved.was_at)
    before (inr (apart, h)) = t.rule.rooted m x h

  taken : (j : ℕ) (b : Node) → node_at nodes j ≡ Some b → b.parent ≡ node.parent → folded b.name ≡ folded node.name → ⊥
  taken j b g p q = none-some j (sym (hung_free nodes new node may.free moved.hangs) ∙ child_at nodes node.parent (folded node.name) j t (record { node = b; at = g; parent_is = p; name_is = q }))

  distinct : (i j : ℕ) (a b : Node) → node_at (with_numbered_node nodes n node) i ≡ Some a → node_at (with_numbered_node nodes n node) j ≡ Some b → a.parent ≡ b.parent → folded a.name ≡ folded b.name → i ≡ j
  distinct i j a b e f p q = elim (was i a e) [
    | inl (z, is) ↦ elim (was j b f) [
      | inl (w, is2) ↦ z ∙ sym w
      | inr (apart, g) ↦ absurd (taken j b g (sym p ∙ ap (λ (y : Node). y.parent) is) (sym q ∙ ap (λ (y : Node). folded y.name) is))
    ]
    | inr (apart, g) ↦ elim (was j b f) [
      | inl (w, is2) ↦ absurd (taken i a g (p ∙ ap (λ (y : Node). y.parent) is2) (q ∙ ap (λ (y : Node). folded y.name) is2))
      | inr (apart2, h) ↦ t.rule.distinct i j a b g h p q
    ]
  ]
