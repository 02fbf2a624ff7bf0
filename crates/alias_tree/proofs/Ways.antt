-- Each node has one path, and the tree of the nodes has it there.
use Rattle.std.proofs.Common.{◌≡◌, ℕ, zero, suc, ◌+◌, ◌-◌, ◌<◌, Bool, true, false, eqb, List, [], ◌∷◌, ◌++◌, length, map, Option, Some, None, refl, sym, ap, subst, ◌∙◌, arith, inl, inr, ◌⊎◌, append_assoc}
use Rattle.std.specs.Cmp.{IsTotalOrder, Equal-is}
use Rattle.std.specs.Cmp.Lexicographic.{slice_cmp}
use Rattle.std.specs.FinMap as maps
use Rattle.std.specs.Option.{option_and_then, option_map}
use Rattle.std.specs.Ordering.{eq_by_cmp, nat_cmp}
use Rattle.std.proofs.lemmas.Bool.{eqb-true, eq-eqb, true≢false}
use Rattle.std.proofs.lemmas.Cmp.{lists_total, nat_list_cmp_total, eq_by_cmp_equiv}
use Rattle.std.proofs.lemmas.List.{append-nil}
use Rattle.std.proofs.lemmas.Option.{none-some}
use Rattle.asm_group.specs.Names.{Bytes, Path, folded, folded_path}
use Rattle.asm_group.specs.Group.{TreeEntry}
use Rattle.asm_formats.specs.Items.{Node}
use Rattle.asm_base.proofs.Exact.{some_is}
use Rattle.alias_tree.specs.Nodes.{Numbered, node_at, reaches_root, child, number_from, IsNodeTable}
use Rattle.alias_tree.specs.Places.{IsNodeAmong}
use Rattle.asm_formats.specs.Nodes.{entry_of_node}
use Rattle.alias_tree.specs.Trees.{way_to, tree_of, number_by, node_by}
use Rattle.alias_tree.proofs.Children.{child_some, child_none}
use Rattle.alias_tree.proofs.IndexLaws.{either, at_member, member_at, item_at}
use Rattle.alias_tree.proofs.Readings.{number_is_some}
use Rattle.alias_tree.proofs.Rules.{at_root, no_steps, step_up, no_way}

-- ---- keys

pub paths_total : IsTotalOrder (slice_cmp (slice_cmp nat_cmp))
paths_total = lists_total nat_list_cmp_total

abbrev pub is_key : Path → Path → Bool
is_key p q = eq_by_cmp (slice_cmp (slice_cmp nat_cmp)) p q

pub key_is : (p q : Path) → is_key p q ≡ true → p ≡ q
key_is p q e = maps.slice_cmp-IsAntisymmetric (maps.slice_cmp-IsAntisymmetric maps.nat_cmp-IsAntisymmetric) p q ((Equal-is (slice_cmp (slice_cmp nat_cmp) p q)).0 e)

pub key_self : (p : Path) → is_key p p ≡ true
key_self p = (eq_by_cmp_equiv paths_total).refl p

pub key_other : (p q : Path) → (p ≡ q → ⊥) → is_key p q ≡ false
key_other p q other = elim (either (is_key p q)) [ inl e ↦ absurd (other (key_is p q e)) | inr e ↦ e ]

-- ---- children

-- a node of this parent and folded name
pub record ChildAt (nodes : List Numbered) (parent : ℕ) (name : Bytes) (n : ℕ) : Type 0 where
  pub node : Node
  pub at : node_at nodes n ≡ Some node
  pub parent_is : node.parent ≡ parent
  pub name_is : folded node.name ≡ name

pub child_found : (nodes : List Numbered) (parent : ℕ) (name : Bytes) (n : ℕ) → IsNodeTable nodes → child nodes parent name ≡ Some n → ChildAt nodes parent name n
child_found nodes parent name n t e =
    let c = child_some nodes parent name n e in
    record { node = c.node; at = member_at nodes (n, c.node) t.items.0 c.member; parent_is = c.parent_is; name_is = c.name_is }

pub child_at : (nodes : List Numbered) (parent : ℕ) (name : Bytes) (n : ℕ) → IsNodeTable nodes → ChildAt nodes parent name n → child nodes parent name ≡ Some n
child_at nodes parent name n t c = one (child nodes parent name) refl where
  one : (o : Option ℕ) → child nodes parent name ≡ o → o ≡ Some n
  one None e = absurd (child_none nodes parent name e (n, c.node) (at_member nodes n c.node c.at) c.parent_is c.name_is)
  one (Some m) e =
      let f = child_found nodes parent name m t e in
      ap (λ (k : ℕ). Some k) (t.rule.distinct m n f.node c.node f.at c.at (f.parent_is ∙ sym c.parent_is) (f.name_is ∙ sym c.name_is))

pub no_root : (nodes : List Numbered) → IsNodeTable nodes → node_at nodes 0 ≡ None
no_root nodes t = one (node_at nodes 0) refl where
  one : (o : Option Node) → node_at nodes 0 ≡ o → o ≡ None
  one None e = refl
  one (Some node) e = absurd (let some : 0 < 0 = (number_is_some 0 node (item_at nodes 0 node t.items e)).0 in omega arith)

-- ---- the way up

-- the root, or a node whose parent is one step nearer to it
pub at_or_below : (nodes : List Numbered) (k n : ℕ) → reaches_root nodes (suc k) n ≡ true → (n ≡ 0) ⊎ ((node : Node) × (node_at nodes n ≡ Some node) × (reaches_root nodes k node.parent ≡ true))
at_or_below nodes k n r = elim (either (eqb n 0)) [
  | inl e ↦ inl (eqb-true n 0 e)
  | inr e ↦ inr (one (λ z. true≢false (sym (eq-eqb n 0 z) ∙ e)) (node_at nodes n) refl)
] where
  one : (n ≡ 0 → ⊥) → (o : Option Node) → node_at nodes n ≡ o → (node : Node) × (node_at nodes n ≡ Some node) × (reaches_root nodes k node.parent ≡ true)
  one other None f = absurd (true≢false (sym r ∙ no_way nodes (suc k) n (omega arith) other f))
  one other (Some node) f =
      let less : suc k - 1 ≡ k = omega arith in
      (node, f, sym (step_up nodes (suc k) n node (omega arith) other f ∙ ap (λ (j : ℕ). reaches_root nodes j node.parent) less) ∙ r)

-- one step more, below a node that reaches the root
pub reaches_below : (nodes : List Numbered) (k n : ℕ) (node : Node) → node_at nodes n ≡ Some node → reaches_root nodes k node.parent ≡ true → reaches_root nodes (suc k) n ≡ true
reaches_below nodes k n node e r = elim (either (eqb n 0)) [
  | inl z ↦ at_root nodes (suc k) n (eqb-true n 0 z)
  | inr z ↦
      let less : suc k - 1 ≡ k = omega arith in
      step_up nodes (suc k) n node (omega arith) (λ w. true≢false (sym (eq-eqb n 0 w) ∙ z)) e ∙ (ap (λ (j : ℕ). reaches_root nodes j node.parent) less ∙ r)
]

pub at_zero : (nodes : List Numbered) (n : ℕ) → reaches_root nodes zero n ≡ true → n ≡ 0
at_zero nodes n r = eqb-true n 0 (sym (no_steps nodes zero n refl) ∙ r)

pub reaches_more : (nodes : List Numbered) (k j n : ℕ) → reaches_root nodes k n ≡ true → reaches_root nodes (k + j) n ≡ true
reaches_more nodes zero j n r = at_root nodes (zero + j) n (at_zero nodes n r)
reaches_more nodes (suc k) j n r =
    let more : suc k + j ≡ suc (k + j) = omega arith in
    subst (λ (i : ℕ). reaches_root nodes i n ≡ true) (sym more) (one (at_or_below nodes k n r) (λ m h. reaches_more nodes k j m h))
  where
    one : ((n ≡ 0) ⊎ ((node : Node) × (node_at nodes n ≡ Some node) × (reaches_root nodes k node.parent ≡ true))) → ((m : ℕ) → reaches_root nodes k m ≡ true → reaches_root nodes (k + j) m ≡ true) → reaches_root nodes (suc (k + j)) n ≡ true
    one (inl z) more = at_root nodes (suc (k + j)) n z
    one (inr (node, e, h)) more = reaches_below nodes (k + j) n node e (more node.parent h)

-- ---- the way down

way_root : (nodes : List Numbered) (k : ℕ) → node_at nodes 0 ≡ None → way_to nodes k 0 ≡ []
unfolding way_to
way_root nodes zero e = refl
way_root nodes (suc k) e = rw e refl

way_step : (nodes : List Numbered) (k n : ℕ) (node : Node) → node_at nodes n ≡ Some node → way_to nodes (suc k) n ≡ way_to nodes k node.parent ++ folded node.name ∷ []
unfolding way_to
way_step nodes k n node e = rw e refl

way_none : (nodes : List Numbered) (n : ℕ) → way_to nodes zero n ≡ []
unfolding way_to
way_none nodes n = refl

-- enough steps are enough
way_more : (nodes : List Numbered) → IsNodeTable nodes → (k j n : ℕ) → reaches_root nodes k n ≡ true → way_to nodes (k + j) n ≡ way_to nodes k n
way_more nodes t zero j n r =
    subst (λ (m : ℕ). way_to nodes (zero + j) m ≡ way_to nodes zero m) (sym (at_zero nodes n r)) (way_root nodes (zero + j) (no_root nodes t) ∙ sym (way_none nodes 0))
way_more nodes t (suc k) j n r =
    let more : suc k + j ≡ suc (k + j) = omega arith in
    subst (λ (i : ℕ). way_to nodes i n ≡ way_to nodes (suc k) n) (sym more) (one (at_or_below nodes k n r) (λ m h. way_more nodes t k j m h))
  where
    one : ((n ≡ 0) ⊎ ((node : Node) × (node_at nodes n ≡ Some node) × (reaches_root nodes k node.parent ≡ true))) → ((m : ℕ) → reaches_root nodes k m ≡ true → way_to nodes (k + j) m ≡ way_to nodes k m) → way_to nodes (suc (k + j)) n ≡ way_to nodes (suc k) n
    one (inl z) more = subst (λ (m : ℕ). way_to nodes (suc (k + j)) m ≡ way_to nodes (suc k) m) (sym z) (way_root nodes (suc (k + j)) (no_root nodes t) ∙ sym (way_root nodes (suc k) (no_root nodes t)))
    one (inr (node, e, h)) more = way_step nodes (k + j) n node e ∙ (ap (λ (p : Path). p ++ folded node.name ∷ []) (more node.parent h) ∙ sym (way_step nodes k n node e))

-- ---- paths

pub by_append : (nodes : List Numbered) (p q : Path) (a : ℕ) → number_by nodes a (p ++ q) ≡ option_and_then (λ m. number_by nodes m q) (number_by nodes a p)
by_append nodes [] q a = refl
by_append nodes (x ∷ p) q a = one (child nodes a x) (λ m. by_append nodes p q m) where
  one : (o : Option ℕ) → ((m : ℕ) → number_by nodes m (p ++ q) ≡ option_and_then (λ i. number_by nodes i q) (number_by nodes m p))
      → option_and_then (λ m. number_by nodes m (p ++ q)) o ≡ option_and_then (λ m. number_by nodes m q) (option_and_then (λ m. number_by nodes m p) o)
  one None more = refl
  one (Some m) more = more m

-- the first step of a path
pub by_step : (nodes : List Numbered) (x : Bytes) (q : Path) (a n : ℕ) → number_by nodes a (x ∷ q) ≡ Some n → (m : ℕ) × (child nodes a x ≡ Some m) × (number_by nodes m q ≡ Some n)
by_step nodes x q a n e = one (child nodes a x) refl e where
  one : (o : Option ℕ) → child nodes a x ≡ o → option_and_then (λ m. number_by nodes m q) o ≡ Some n → (m : ℕ) × (child nodes a x ≡ Some m) × (number_by nodes m q ≡ Some n)
  one None f e = absurd (none-some n e)
  one (Some m) f e = (m, f, e)

-- the last step of a path
pub by_last : (nodes : List Numbered) (p : Path) (x : Bytes) (a m : ℕ) → number_by nodes a p ≡ Some m → number_by nodes a (p ++ x ∷ []) ≡ child nodes m x
by_last nodes p x a m e = by_append nodes p (x ∷ []) a ∙ (ap (λ (o : Option ℕ). option_and_then (λ i. number_by nodes i (x ∷ [])) o) e ∙ one (child nodes m x)) where
  one : (o : Option ℕ) → option_and_then (λ (i : ℕ). Some i) o ≡ o
  one None = refl
  one (Some i) = refl

way_down : (nodes : List Numbered) → IsNodeTable nodes → (q : Path) (a n k : ℕ) → number_by nodes a q ≡ Some n → way_to nodes (k + length q) n ≡ way_to nodes k a ++ q
way_down nodes t [] a n k e =
    let same : a ≡ n = some_is a n e in
    let none : k + 0 ≡ k = omega arith in
    ap (λ (i : ℕ). way_to nodes i n) none ∙ (ap (λ (m : ℕ). way_to nodes k m) (sym same) ∙ sym (append-nil (way_to nodes k a)))
way_down nodes t (x ∷ q) a n k e =
    let s = by_step nodes x q a n e in
    let c = child_found nodes a x s.0 t s.1 in
    let down : way_to nodes (suc k + length q) n ≡ way_to nodes (suc k) s.0 ++ q = way_down nodes t q s.0 n (suc k) s.2 in
    let at : way_to nodes (suc k) s.0 ≡ way_to nodes k a ++ x ∷ [] = way_step nodes k s.0 c.node c.at ∙ (ap (λ (m : ℕ). way_to nodes k m ++ folded c.node.name ∷ []) c.parent_is ∙ ap (λ (y : Bytes). way_to nodes k a ++ y ∷ []) c.name_is) in
    let count : k + suc (length q) ≡ suc k + length q = omega arith in
    ap (λ (i : ℕ). way_to nodes i n) count ∙ (down ∙ (ap (λ (p : Path). p ++ q) at ∙ append_assoc (way_to nodes k a) (x ∷ []) q))

reaches_down : (nodes : List Numbered) → IsNodeTable nodes → (q : Path) (a n k : ℕ) → number_by nodes a q ≡ Some n → reaches_root nodes k a ≡ true → reaches_root nodes (k + length q) n ≡ true
reaches_down nodes t [] a n k e r =
    let none : k + 0 ≡ k = omega arith in
    subst (λ (i : ℕ). reaches_root nodes i n ≡ true) (sym none) (subst (λ (m : ℕ). reaches_root nodes k m ≡ true) (some_is a n e) r)
reaches_down nodes t (x ∷ q) a n k e r =
    let s = by_step nodes x q a n e in
    let c = child_found nodes a x s.0 t s.1 in
    let count : k + suc (length q) ≡ suc k + length q = omega arith in
    subst (λ (i : ℕ). reaches_root nodes i n ≡ true) (sym count)
    (reaches_down nodes t q s.0 n (suc k) s.2 (reaches_below nodes k s.0 c.node c.at (subst (λ (m : ℕ). reaches_root nodes k m ≡ true) (sym c.parent_is) r)))

abbrev pub way : List Numbered → ℕ → Path
way nodes n = way_to nodes (length nodes) n

-- a node has one path
pub way_is : (nodes : List Numbered) (q : Path) (n : ℕ) → IsNodeTable nodes → number_by nodes 0 q ≡ Some n → way nodes n ≡ q
way_is nodes q n t e = one (node_at nodes n) refl where
  at_end : way_to nodes (length q) n ≡ q
  at_end =
      let none : length q ≡ 0 + length q = omega arith in
      ap (λ (i : ℕ). way_to nodes i n) none ∙ (way_down nodes t q 0 n 0 e ∙ ap (λ (p : Path). p ++ q) (way_none nodes 0))

  reached : reaches_root nodes (length q) n ≡ true
  reached =
      let none : 0 + length q ≡ length q = omega arith in
      subst (λ (i : ℕ). reaches_root nodes i n ≡ true) none (reaches_down nodes t q 0 n 0 e (at_root nodes 0 0 refl))

  one : (o : Option Node) → node_at nodes n ≡ o → way nodes n ≡ q
  one (Some node) f =
      let turned : length nodes + length q ≡ length q + length nodes = omega arith in
      sym (way_more nodes t (length nodes) (length q) n (t.rule.rooted n node f)) ∙ (ap (λ (i : ℕ). way_to nodes i n) turned ∙ (way_more nodes t (length q) (length nodes) n reached ∙ at_end))
  one None f = none q e f where
    none : (q : Path) → number_by nodes 0 q ≡ Some n → node_at nodes n ≡ None → way nodes n ≡ q
    none [] e f = subst (λ (m : ℕ). way nodes m ≡ []) (some_is 0 n e) (way_root nodes (length nodes) (no_root nodes t))
    none (x ∷ q) e f = absurd (end x q 0 e) where
      end : (x : Bytes) (q : Path) (a : ℕ) → number_by nodes a (x ∷ q) ≡ Some n → ⊥
      end x [] a e =
          let s = by_step nodes x [] a n e in
          let c = child_found nodes a x s.0 t s.1 in
          let g : node_at nodes n ≡ Some c.node = subst (λ (m : ℕ). node_at nodes m ≡ Some c.node) (some_is s.0 n s.2) c.at in
          none-some c.node (sym f ∙ g)
      end x (y ∷ q) a e = let s = by_step nodes x (y ∷ q) a n e in end y q s.0 s.2

leads : (nodes : List Numbered) → IsNodeTable nodes → (k n : ℕ) → reaches_root nodes k n ≡ true → number_by nodes 0 (way_to nodes k n) ≡ Some n
leads nodes t zero n r = subst (λ (m : ℕ). number_by nodes 0 (way_to nodes zero m) ≡ Some m) (sym (at_zero nodes n r)) (ap (λ (p : Path). number_by nodes 0 p) (way_none nodes 0))
leads nodes t (suc k) n r = one (at_or_below nodes k n r) (λ m h. leads nodes t k m h) where
  one : ((n ≡ 0) ⊎ ((node : Node) × (node_at nodes n ≡ Some node) × (reaches_root nodes k node.parent ≡ true))) → ((m : ℕ) → reaches_root nodes k m ≡ true → number_by nodes 0 (way_to nodes k m) ≡ Some m) → number_by nodes 0 (way_to nodes (suc k) n) ≡ Some n
  one (inl z) more = subst (λ (m : ℕ). number_by nodes 0 (way_to nodes (suc k) m) ≡ Some m) (sym z) (ap (λ (p : Path). number_by nodes 0 p) (way_root nodes (suc k) (no_root nodes t)))
  one (inr (node, e, h)) more =
      ap (λ (p : Path). number_by nodes 0 p) (way_step nodes k n node e)
      ∙ (by_last nodes (way_to nodes k node.parent) (folded node.name) 0 node.parent (more node.parent h) ∙ child_at nodes node.parent (folded node.name) n t (record { node = node; at = e; parent_is = refl; name_is = refl }))

-- the way to a node leads there
pub way_leads : (nodes : List Numbered) (n : ℕ) (node : Node) → IsNodeTable nodes → node_at nodes n ≡ Some node → number_by nodes 0 (way nodes n) ≡ Some n
way_leads nodes n node t e = leads nodes t (length nodes) n (t.rule.rooted n node e)

-- ---- the tree has just the nodes' paths

abbrev entry : List Numbered → Numbered → Path × TreeEntry
entry nodes x = (way nodes x.0, entry_of_node x.1)

abbrev in_list : Path → List (Path × TreeEntry) → Option TreeEntry
in_list q es = maps.find (slice_cmp (slice_cmp nat_cmp)) q es

listed : (nodes xs : List Numbered) (q : Path) (node : Node) → ((x : Numbered) → IsNodeAmong x xs → way nodes x.0 ≡ q → x.1 ≡ node) → (x : Numbered) → IsNodeAmong x xs → way nodes x.0 ≡ q → in_list q (map (entry nodes) xs) ≡ Some (entry_of_node node)
listed nodes [] q node all x m e = absurd m
listed nodes (y ∷ xs) q node all x m e = elim (either (is_key q (way nodes y.0))) [
  | inl hit ↦ rw hit (ap (λ (z : Node). Some (entry_of_node z)) (all y (inl refl) (sym (key_is q (way nodes y.0) hit))))
  | inr miss ↦ elim m [
    | inl same ↦ absurd (true≢false (sym (key_self q) ∙ (ap (λ (p : Path). is_key q p) (sym (ap (λ (z : Numbered). way nodes z.0) (sym same) ∙ e)) ∙ miss)))
    | inr later ↦ rw miss (listed nodes xs q node (λ z i. all z (inr i)) x later e)
  ]
]

unlisted : (nodes xs : List Numbered) (q : Path) → ((x : Numbered) → IsNodeAmong x xs → way nodes x.0 ≡ q → ⊥) → in_list q (map (entry nodes) xs) ≡ None
unlisted nodes [] q none = refl
unlisted nodes (y ∷ xs) q none = rw (key_other q (way nodes y.0) (λ e. none y (inl refl) (sym e))) (unlisted nodes xs q (λ z i. none z (inr i)))

-- The tree has at a path what stands there among the nodes.
pub tree_has : (nodes : List Numbered) (q : Path) → IsNodeTable nodes → maps.get (tree_of nodes) q ≡ option_map entry_of_node (node_by nodes q)
unfolding tree_of
tree_has nodes q t = maps.get-from_entries paths_total (map (entry nodes) nodes) q ∙ one (number_by nodes 0 q) refl where
  none : (node_by nodes q ≡ None) → in_list q (map (entry nodes) nodes) ≡ None
  none f = unlisted nodes nodes q (λ x m e.
      let at = member_at nodes x t.items.0 m in
      let by : number_by nodes 0 q ≡ Some x.0 = ap (λ (p : Path). number_by nodes 0 p) (sym e) ∙ way_leads nodes x.0 x.1 t at in
      none-some x.1 (sym f ∙ (ap (λ (o : Option ℕ). option_and_then (λ n. node_at nodes n) o) by ∙ at)))

  two : (n : ℕ) → number_by nodes 0 q ≡ Some n → (o : Option Node) → node_at nodes n ≡ o → in_list q (map (entry nodes) nodes) ≡ option_map entry_of_node o
  two n e None f = none (ap (λ (o : Option ℕ). option_and_then (λ m. node_at nodes m) o) e ∙ f)
  two n e (Some node) f =
      listed nodes nodes q node (λ x m g.
      let at = member_at nodes x t.items.0 m in
      let by : number_by nodes 0 q ≡ Some x.0 = ap (λ (p : Path). number_by nodes 0 p) (sym g) ∙ way_leads nodes x.0 x.1 t at in
      let same : x.0 ≡ n = some_is x.0 n (sym by ∙ e) in
      some_is x.1 node (sym at ∙ (ap (λ (m : ℕ). node_at nodes m) same ∙ f)))
      (n, node) (at_member nodes n node f) (way_is nodes q n t e)

  one : (o : Option ℕ) → number_by nodes 0 q ≡ o → in_list q (map (entry nodes) nodes) ≡ option_map entry_of_node (option_and_then (λ n. node_at nodes n) o)
  one None e = none (ap (λ (o : Option ℕ). option_and_then (λ n. node_at nodes n) o) e)
  one (Some n) e = two n e (node_at nodes n) refl

-- ---- a path and its folded names

pub by_folded : (nodes : List Numbered) (path : Path) (a : ℕ) → number_from nodes a path ≡ number_by nodes a (folded_path path)
by_folded nodes [] a = refl
by_folded nodes (x ∷ path) a = one (child nodes a (folded x)) (λ m. by_folded nodes path m) where
  one : (o : Option ℕ) → ((m : ℕ) → number_from nodes m path ≡ number_by nodes m (folded_path path)) → option_and_then (λ m. number_from nodes m path) o ≡ option_and_then (λ m. number_by nodes m (folded_path path)) o
  one None more = refl
  one (Some m) more = more m
