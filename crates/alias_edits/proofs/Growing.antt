-- The tree of names, where nodes come and go below which nothing hangs.
use Rattle.std.proofs.Common.{◌≡◌, ℕ, Bool, true, false, cond, List, [], ◌∷◌, Option, Some, None, refl, sym, ap, subst, ◌∙◌, inl, inr, ◌⊎◌}
use Rattle.std.specs.Prelude.{not}
use Rattle.std.specs.Cmp.Lexicographic.{slice_cmp}
use Rattle.std.specs.FinMap as maps
use Rattle.std.specs.BTreeMap.{is_at}
use Rattle.std.specs.Option.{option_and_then, option_map}
use Rattle.std.specs.Ordering.{nat_cmp}
use Rattle.std.specs.declared.cmp.Ordering.TheVariants.{Equal}
use Rattle.std.proofs.lemmas.Bool.{true≢false}
use Rattle.std.proofs.lemmas.Option.{none-some}
use Rattle.asm_group.specs.Names.{Bytes, Path}
use Rattle.asm_group.specs.Group.{TreeEntry}
use Rattle.asm_group.specs.TreeEdits.{Tree, names_file, is_tree_entry, without_file}
use Rattle.asm_formats.specs.Items.{Node}
use Rattle.alias_tree.specs.asm_base.Tables.{IsItemTable}
use Rattle.alias_tree.proofs.asm_base.Exact.{some_is}
use Rattle.alias_tree.specs.Numbers.{is_name_of}
use Rattle.alias_tree.specs.Nodes.{Numbered, item_of_node, is_before, node_at, IsNodeTable, child}
use Rattle.asm_formats.specs.Nodes.{node_kind, entry_of_node}
use Rattle.alias_tree.specs.Trees.{tree_of, number_by, node_by}
use Rattle.alias_tree.proofs.IndexLaws.{either, at_is, at_self}
use Rattle.alias_tree.proofs.Keeping.{Pruned, was_there, pruned_keeps_table}
use Rattle.alias_tree.proofs.Leading.{shows}
use Rattle.alias_tree.proofs.Ways.{is_key, key_is, key_self, paths_total, child_found, child_at, no_root, way_is, tree_has}

keys_same : maps.IsAntisymmetric (slice_cmp (slice_cmp nat_cmp))
keys_same = maps.slice_cmp-IsAntisymmetric (maps.slice_cmp-IsAntisymmetric maps.nat_cmp-IsAntisymmetric)

-- two trees that answer alike are one
pub same_tree : (t u : Tree) → ((q : Path) → maps.get t q ≡ maps.get u q) → t ≡ u
same_tree t u same = maps.same_map paths_total keys_same t u same

-- ---- look-up where nodes are gone

abbrev pub keep : (ℕ → Bool) → Option ℕ → Option ℕ
keep gone None = None
keep gone (Some m) = cond (gone m) None (Some m)

pub child_pruned : (big small : List Numbered) (gone : ℕ → Bool) (a : ℕ) (x : Bytes) → IsNodeTable big → IsNodeTable small → Pruned big small gone → child small a x ≡ keep gone (child big a x)
child_pruned big small gone a x t u p = one (child big a x) refl where
  none : (o : Option ℕ) → child small a x ≡ o → ((m : ℕ) → child small a x ≡ Some m → ⊥) → o ≡ None
  none None e not = refl
  none (Some m) e not = absurd (not m e)

  -- a child that is left was one
  was : (m : ℕ) → child small a x ≡ Some m → (gone m ≡ false) × (child big a x ≡ Some m)
  was m e =
      let c = child_found small a x m u e in
      let w = was_there big small gone m c.node p c.at in
      (w.0, child_at big a x m t (record { node = c.node; at = w.1; parent_is = c.parent_is; name_is = c.name_is }))

  one : (o : Option ℕ) → child big a x ≡ o → child small a x ≡ keep gone o
  one None e = none (child small a x) refl (λ m f. none-some m (sym e ∙ (was m f).1))
  one (Some n) e = elim (either (gone n)) [
    | inl hit ↦ rw hit (none (child small a x) refl (λ m f. true≢false (sym hit ∙ (ap gone (some_is n m (sym e ∙ (was m f).1)) ∙ (was m f).0))))
    | inr miss ↦
        let c = child_found big a x n t e in
        rw miss (child_at small a x n u (record { node = c.node; at = p.stay n miss ∙ c.at; parent_is = c.parent_is; name_is = c.name_is }))
  ]

pub by_pruned : (big small : List Numbered) (gone : ℕ → Bool) (q : Path) (a : ℕ) → IsNodeTable big → IsNodeTable small → Pruned big small gone → gone a ≡ false → number_by small a q ≡ keep gone (number_by big a q)
by_pruned big small gone [] a t u p stays = rw stays refl
by_pruned big small gone (x ∷ q) a t u p stays = ap (λ (o : Option ℕ). option_and_then (λ m. number_by small m q) o) (child_pruned big small gone a x t u p) ∙ one (child big a x) (λ m h. by_pruned big small gone q m t u p h) where
  -- nothing hangs below what is gone
  below : (c : ℕ) (r : Path) → gone c ≡ true → keep gone (number_by big c r) ≡ None
  below c [] hit = rw hit refl
  below c (y ∷ r) hit = two (child big c y) refl where
    two : (o : Option ℕ) → child big c y ≡ o → keep gone (option_and_then (λ m. number_by big m r) o) ≡ None
    two None e = refl
    two (Some m) e =
        let k = child_found big c y m t e in
        absurd (true≢false (sym hit ∙ (ap gone (sym k.parent_is) ∙ p.leaves m k.node k.at)))

  one : (o : Option ℕ) → ((m : ℕ) → gone m ≡ false → number_by small m q ≡ keep gone (number_by big m q))
      → option_and_then (λ m. number_by small m q) (keep gone o) ≡ keep gone (option_and_then (λ m. number_by big m q) o)
  one None more = refl
  one (Some c) more = elim (either (gone c)) [
    | inl hit ↦ rw hit (sym (below c q hit))
    | inr miss ↦ rw miss (more c miss)
  ]

-- what is kept was there
pub kept_is : (gone : ℕ → Bool) (o : Option ℕ) (m : ℕ) → keep gone o ≡ Some m → (o ≡ Some m) × (gone m ≡ false)
kept_is gone None m e = absurd (none-some m e)
kept_is gone (Some n) m e = elim (either (gone n)) [
  | inl hit ↦ absurd (none-some m (rw hit at e))
  | inr miss ↦ let same : n ≡ m = some_is n m (rw miss at e) in (ap (λ (k : ℕ). Some k) same, ap gone (sym same) ∙ miss)
]

-- ---- the same nodes

pub none_gone : (a b : List Numbered) → ((n : ℕ) → node_at b n ≡ node_at a n) → Pruned a b (λ n. false)
none_gone a b same = record { stay = λ m e. same m; left = λ m e. absurd (true≢false (sym e)); leaves = λ m x e. refl }

pub same_table : (a b : List Numbered) → IsNodeTable a → IsItemTable is_before item_of_node b → ((n : ℕ) → node_at b n ≡ node_at a n) → IsNodeTable b
same_table a b t items same = pruned_keeps_table a b (λ n. false) t (none_gone a b same) items

pub same_nodes_tree : (a b : List Numbered) → IsNodeTable a → IsNodeTable b → ((n : ℕ) → node_at b n ≡ node_at a n) → tree_of b ≡ tree_of a
same_nodes_tree a b t u same = same_tree (tree_of b) (tree_of a) (λ q. tree_has b q u ∙ (ap (λ (o : Option Node). option_map entry_of_node o) (node q) ∙ sym (tree_has a q t))) where
  whole : (o : Option ℕ) → keep (λ n. false) o ≡ o
  whole None = refl
  whole (Some n) = refl

  found : (o : Option ℕ) → option_and_then (λ n. node_at b n) o ≡ option_and_then (λ n. node_at a n) o
  found None = refl
  found (Some n) = same n

  node : (q : Path) → node_by b q ≡ node_by a q
  node q = ap (λ (o : Option ℕ). option_and_then (λ n. node_at b n) o) (by_pruned a b (λ n. false) q 0 t u (none_gone a b same) refl ∙ whole (number_by a 0 q)) ∙ found (number_by a 0 q)

-- ---- one node less

-- only this node is gone
abbrev pub OneGone : List Numbered → List Numbered → ℕ → Type 0
OneGone big small n = Pruned big small (λ m. is_at (nat_cmp n) m)

pub other_path : (big small : List Numbered) (n : ℕ) (p q : Path) → IsNodeTable big → IsNodeTable small → OneGone big small n → is_at (nat_cmp n) 0 ≡ false → number_by big 0 p ≡ Some n → is_key q p ≡ false
    → maps.get (tree_of small) q ≡ maps.get (tree_of big) q
other_path big small n p q t u gone root at other = tree_has small q u ∙ (ap (λ (o : Option Node). option_map entry_of_node o) node ∙ sym (tree_has big q t)) where
  same : number_by big 0 q ≡ Some n → q ≡ p
  same e = sym (way_is big q n t e) ∙ way_is big p n t at

  found : (o : Option ℕ) → number_by big 0 q ≡ o → option_and_then (λ m. node_at small m) (keep (λ m. is_at (nat_cmp n) m) o) ≡ option_and_then (λ m. node_at big m) o
  found None e = refl
  found (Some m) e = elim (either (is_at (nat_cmp n) m)) [
    | inl hit ↦ absurd (true≢false (sym (subst (λ (k : Path). is_key q k ≡ true) (same (e ∙ ap (λ (k : ℕ). Some k) (sym (at_is n m hit)))) (key_self q)) ∙ other))
    | inr miss ↦ rw miss (gone.stay m miss)
  ]

  node : node_by small q ≡ node_by big q
  node = ap (λ (o : Option ℕ). option_and_then (λ m. node_at small m) o) (by_pruned big small (λ m. is_at (nat_cmp n) m) q 0 t u gone root) ∙ found (number_by big 0 q) refl

pub gone_path : (big small : List Numbered) (n : ℕ) (p : Path) → IsNodeTable big → IsNodeTable small → OneGone big small n → is_at (nat_cmp n) 0 ≡ false → number_by big 0 p ≡ Some n → maps.get (tree_of small) p ≡ None
gone_path big small n p t u gone root at =
    let hit : cond (is_at (nat_cmp n) n) None (Some n) ≡ None = rw (at_self n) refl in
    let none : number_by small 0 p ≡ None = by_pruned big small (λ m. is_at (nat_cmp n) m) p 0 t u gone root ∙ (ap (λ (o : Option ℕ). keep (λ m. is_at (nat_cmp n) m) o) at ∙ hit) in
    tree_has small p u ∙ ap (λ (o : Option ℕ). option_map entry_of_node (option_and_then (λ m. node_at small m) o)) none

-- A node that goes takes its path from the tree.
pub removed_tree : (big small : List Numbered) (n : ℕ) (p : Path) → IsNodeTable big → IsNodeTable small → OneGone big small n → is_at (nat_cmp n) 0 ≡ false → number_by big 0 p ≡ Some n
    → tree_of small ≡ maps.remove (tree_of big) p
removed_tree big small n p t u gone root at = same_tree (tree_of small) (maps.remove (tree_of big) p) (λ q. one q (either (is_key q p)) ∙ sym (maps.get-remove paths_total (tree_of big) p q)) where
  one : (q : Path) → (is_key q p ≡ true) ⊎ (is_key q p ≡ false) → maps.get (tree_of small) q ≡ cond (is_key q p) None (maps.get (tree_of big) q)
  one q (inl hit) = rw hit (ap (λ (k : Path). maps.get (tree_of small) k) (key_is q p hit) ∙ gone_path big small n p t u gone root at)
  one q (inr miss) = rw miss (other_path big small n p q t u gone root at miss)

-- A node that comes has its path in the tree.
pub inserted_tree : (big small : List Numbered) (n : ℕ) (node : Node) (p : Path) → IsNodeTable big → IsNodeTable small → OneGone big small n → is_at (nat_cmp n) 0 ≡ false → number_by big 0 p ≡ Some n → node_at big n ≡ Some node
    → tree_of big ≡ maps.insert (tree_of small) p (entry_of_node node)
inserted_tree big small n node p t u gone root at there = same_tree (tree_of big) (maps.insert (tree_of small) p (entry_of_node node)) (λ q. one q (either (is_key q p)) ∙ sym (maps.get-insert paths_total (tree_of small) p (entry_of_node node) q)) where
  one : (q : Path) → (is_key q p ≡ true) ⊎ (is_key q p ≡ false) → maps.get (tree_of big) q ≡ cond (is_key q p) (Some (entry_of_node node)) (maps.get (tree_of small) q)
  one q (inl hit) = rw hit (ap (λ (k : Path). maps.get (tree_of big) k) (key_is q p hit) ∙ shows big p n node t at there)
  one q (inr miss) = rw miss (sym (other_path big small n p q t u gone root at miss))

-- ---- the names of a file

abbrev pub NamesGone : List Numbered → List Numbered → ℕ → Type 0
NamesGone big small file = Pruned big small (λ m. is_name_of file (node_at big m))

-- The names of a file that go take their paths from the tree.
pub unnamed_tree : (big small : List Numbered) (file : ℕ) → IsNodeTable big → IsNodeTable small → NamesGone big small file → tree_of small ≡ without_file (tree_of big) file
unnamed_tree big small file t u gone = same_tree (tree_of small) (without_file (tree_of big) file) (λ q. one q ∙ sym (maps.get-retain_keys (tree_of big) (test) q (alike q))) where
  test : Path → Bool
  test key = not (is_tree_entry (names_file file) (maps.get (tree_of big) key))

  alike : (q x : Path) → slice_cmp (slice_cmp nat_cmp) q x ≡ Equal → test x ≡ test q
  alike q x e = ap test (sym (keys_same q x e))

  node : (o : Option Node) → option_map entry_of_node (cond (is_name_of file o) None o) ≡ cond (not (is_tree_entry (names_file file) (option_map entry_of_node o))) (option_map entry_of_node o) None
  node None = refl
  node (Some x) = turned (names_file file (node_kind x.kind x.file)) where
    turned : (b : Bool) → option_map entry_of_node (cond b None (Some x)) ≡ cond (not b) (Some (entry_of_node x)) None
    turned true = refl
    turned false = refl

  found : (o : Option ℕ) → option_and_then (λ m. node_at small m) (keep (λ m. is_name_of file (node_at big m)) o) ≡ option_and_then (λ m. cond (is_name_of file (node_at big m)) None (node_at big m)) o
  found None = refl
  found (Some m) = elim (either (is_name_of file (node_at big m))) [
    | inl hit ↦ rw hit refl
    | inr miss ↦ rw miss (gone.stay m miss)
  ]

  out : (o : Option ℕ) → option_and_then (λ m. cond (is_name_of file (node_at big m)) None (node_at big m)) o ≡ cond (is_name_of file (option_and_then (λ m. node_at big m) o)) None (option_and_then (λ m. node_at big m) o)
  out None = refl
  out (Some m) = refl

  root : is_name_of file (node_at big 0) ≡ false
  root = ap (is_name_of file) (no_root big t)

  one : (q : Path) → maps.get (tree_of small) q ≡ cond (test q) (maps.get (tree_of big) q) None
  one q =
      tree_has small q u
      ∙ (ap (λ (o : Option Node). option_map entry_of_node o)
      (ap (λ (o : Option ℕ). option_and_then (λ m. node_at small m) o) (by_pruned big small (λ m. is_name_of file (node_at big m)) q 0 t u gone root) ∙ (found (number_by big 0 q) ∙ out (number_by big 0 q)))
      ∙ (node (node_by big q) ∙ ap (λ (o : Option TreeEntry). cond (not (is_tree_entry (names_file file) o)) o None) (sym (tree_has big q t))))
