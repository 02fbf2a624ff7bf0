-- What keeps the rule of the table.
use Rattle.std.proofs.Common.{◌≡◌, ℕ, zero, suc, ◌+◌, ◌<◌, ◌≤◌, Bool, true, false, cond, Ordering, List, [], ◌∷◌, length, Option, Some, None, refl, sym, ap, subst, ◌∙◌, arith, inl, inr, ◌⊎◌}
use Rattle.std.specs.Prelude.{IsTrue}
use Rattle.std.specs.FinMap as maps
use Rattle.std.specs.BTreeMap.{is_at}
use Rattle.std.specs.Ordering.{nat_cmp}
use Rattle.std.specs.declared.cmp.Ordering.TheVariants.{Less, Equal, Greater}
use Rattle.std.proofs.lemmas.Bool.{true≢false}
use Rattle.std.proofs.lemmas.Cmp.{nat_cmp_total}
use Rattle.std.proofs.lemmas.Option.{none-some}
use Rattle.asm_group.specs.Names.{folded}
use Rattle.asm_formats.specs.Items.{Node, node_item, is_item}
use Rattle.asm_base.specs.Records.{Ascend}
use Rattle.asm_base.specs.Tables.{IsItemTable}
use Rattle.asm_base.proofs.Exact.{some_is}
use Rattle.asm_base.proofs.ItemTables.{put_keeps, removed_keeps}
use Rattle.alias_tree.specs.Nodes.{Numbered, item_of_node, is_before, node_at, with_numbered_node, without_numbered_node, is_directory, reaches_root, IsNodeTable, child}
use Rattle.alias_tree.proofs.IndexLaws.{either, at_is, at_self, not_at, at_member, first_below, less_apart, tail_up, item_at}
use Rattle.alias_tree.proofs.Readings.{number_is_some}
use Rattle.alias_tree.proofs.Rules.{at_root}
use Rattle.alias_tree.proofs.Ways.{child_at, no_root, at_zero, at_or_below, reaches_below, reaches_more}

-- ---- the node at a number, after a change

pub at_with : (nodes : List Numbered) (n : ℕ) (node : Node) (m : ℕ) → node_at (with_numbered_node nodes n node) m ≡ cond (is_at (nat_cmp n) m) (Some node) (node_at nodes m)
at_with nodes n node m = elim (either (is_at (nat_cmp n) m)) [
  | inl hit ↦ rw hit (ap (λ (k : ℕ). node_at (with_numbered_node nodes n node) k) (sym (at_is n m hit)) ∙ here nodes)
  | inr miss ↦ rw miss (other nodes (λ e. true≢false (sym (subst (λ (k : ℕ). is_at (nat_cmp n) k ≡ true) e (at_self n)) ∙ miss)))
] where
  here : (nodes : List Numbered) → node_at (with_numbered_node nodes n node) n ≡ Some node
  here [] = rw (at_self n) refl
  here (x ∷ nodes) = one (nat_cmp n x.0) refl (here nodes) where
    one : (o : Ordering) → nat_cmp n x.0 ≡ o → node_at (with_numbered_node nodes n node) n ≡ Some node → node_at (with_numbered_node (x ∷ nodes) n node) n ≡ Some node
    one Less e more = rw (e, at_self n) refl
    one Equal e more = rw (e, e) refl
    one Greater e more = rw (e, e) more

  other : (nodes : List Numbered) → (n ≡ m → ⊥) → node_at (with_numbered_node nodes n node) m ≡ node_at nodes m
  other [] apart = rw (not_at m n (λ e. apart (sym e))) refl
  other (x ∷ nodes) apart = one (nat_cmp n x.0) refl (other nodes apart) where
    last : (b : Bool) → is_at (nat_cmp m) x.0 ≡ b → node_at (with_numbered_node nodes n node) m ≡ node_at nodes m → cond b (Some x.1) (node_at (with_numbered_node nodes n node) m) ≡ cond b (Some x.1) (node_at nodes m)
    last true e more = refl
    last false e more = more

    one : (o : Ordering) → nat_cmp n x.0 ≡ o → node_at (with_numbered_node nodes n node) m ≡ node_at nodes m → node_at (with_numbered_node (x ∷ nodes) n node) m ≡ node_at (x ∷ nodes) m
    one Less e more = rw (e, not_at m n (λ z. apart (sym z))) refl
    one Equal e more = rw e (rw (not_at m x.0 (λ z. apart (maps.nat_cmp-IsAntisymmetric n x.0 e ∙ sym z))) refl)
    one Greater e more = rw e (last (is_at (nat_cmp m) x.0) refl more)

pub at_without : (nodes : List Numbered) (n m : ℕ) → Ascend is_before nodes → node_at (without_numbered_node nodes n) m ≡ cond (is_at (nat_cmp n) m) None (node_at nodes m)
at_without [] n m up = one (is_at (nat_cmp n) m) where
  one : (b : Bool) → None ≡ cond {A = Option Node} b None None
  one true = refl
  one false = refl
at_without (x ∷ nodes) n m up = elim (either (is_at (nat_cmp n) x.0)) [
  | inl hit ↦ rw hit (elim (either (is_at (nat_cmp n) m)) [
    | inl same ↦ rw same (gone (at_is n x.0 hit) (at_is n m same) (node_at nodes m) refl)
    | inr other ↦ rw (other, not_at m x.0 (λ e. true≢false (sym (subst (λ (k : ℕ). is_at (nat_cmp n) k ≡ true) (at_is n x.0 hit ∙ sym e) (at_self n)) ∙ other))) refl
  ])
  | inr miss ↦ rw miss (elim (either (is_at (nat_cmp m) x.0)) [
    | inl same ↦ rw (same, not_at n m (λ e. true≢false (sym (subst (λ (k : ℕ). is_at (nat_cmp k) x.0 ≡ true) (sym e) same) ∙ miss))) refl
    | inr other ↦ rw other (at_without nodes n m (tail_up x nodes up))
  ])
] where
  gone : n ≡ x.0 → n ≡ m → (o : Option Node) → node_at nodes m ≡ o → node_at nodes m ≡ None
  gone e f None g = g
  gone e f (Some node) g = absurd (less_apart x.0 m (first_below x nodes (m, node) up (at_member nodes m node g)) (sym e ∙ f))

pub length_without : (nodes : List Numbered) (n : ℕ) (node : Node) → node_at nodes n ≡ Some node → suc (length (without_numbered_node nodes n)) ≡ length nodes
length_without [] n node e = absurd (none-some node e)
length_without (x ∷ nodes) n node e = elim (either (is_at (nat_cmp n) x.0)) [
  | inl hit ↦ rw hit refl
  | inr miss ↦ rw miss (ap (λ (k : ℕ). suc k) (length_without nodes n node (rw miss at e)))
]

pub without_items : (nodes : List Numbered) (n : ℕ) → IsItemTable is_before item_of_node nodes → IsItemTable is_before item_of_node (without_numbered_node nodes n)
without_items nodes n t = removed_keeps nat_cmp nat_cmp_total item_of_node (is_at (nat_cmp n)) nodes t

pub with_items : (nodes : List Numbered) (n : ℕ) (node : Node) → is_item (node_item n node) ≡ true → IsItemTable is_before item_of_node nodes → IsItemTable is_before item_of_node (with_numbered_node nodes n node)
with_items nodes n node ok t = put_keeps nat_cmp nat_cmp_total maps.nat_cmp-IsAntisymmetric item_of_node nodes n node ok t

-- ---- as many steps as there are nodes are enough

-- parents that are there stay
abbrev KeepsParents : List Numbered → List Numbered → Type 0
KeepsParents old new = (k : ℕ) (x : Node) → node_at old k ≡ Some x → (y : Node) × (node_at new k ≡ Some y) × (y.parent ≡ x.parent)

pub reaches_in : (old new : List Numbered) → KeepsParents old new → (k m : ℕ) → reaches_root old k m ≡ true → reaches_root new k m ≡ true
reaches_in old new keeps zero m r = subst (λ (i : ℕ). reaches_root new zero i ≡ true) (sym (at_zero old m r)) (at_root new zero 0 refl)
reaches_in old new keeps (suc k) m r = elim (at_or_below old k m r) [
  | inl z ↦ at_root new (suc k) m z
  | inr (x, e, h) ↦
      let y = keeps m x e in
      reaches_below new k m y.0 y.1 (subst (λ (i : ℕ). reaches_root new k i ≡ true) (sym y.2) (reaches_in old new keeps k x.parent h))
]

keeps_rest : (nodes : List Numbered) (n : ℕ) → Ascend is_before nodes → KeepsParents (without_numbered_node nodes n) nodes
keeps_rest nodes n up k x e = elim (either (is_at (nat_cmp n) k)) [
  | inl hit ↦ absurd (none-some x (sym (at_without nodes n k up ∙ rw hit refl) ∙ e))
  | inr miss ↦ (x, sym (at_without nodes n k up ∙ rw miss refl) ∙ e, refl)
]

-- The way up doesn't meet a node, or that node is as near to the root.
away : (nodes : List Numbered) (n k p : ℕ) → Ascend is_before nodes → reaches_root nodes k p ≡ true → (reaches_root (without_numbered_node nodes n) k p ≡ true) ⊎ ((j : ℕ) × (j ≤ k) × (reaches_root nodes j n ≡ true))
away nodes n zero p up r = inl (subst (λ (i : ℕ). reaches_root (without_numbered_node nodes n) zero i ≡ true) (sym (at_zero nodes p r)) (at_root (without_numbered_node nodes n) zero 0 refl))
away nodes n (suc k) p up r = elim (at_or_below nodes k p r) [
  | inl z ↦ inl (at_root (without_numbered_node nodes n) (suc k) p z)
  | inr (x, e, h) ↦ elim (either (is_at (nat_cmp n) p)) [
    | inl hit ↦ inr (suc k, (let le : suc k ≤ suc k = omega arith in le), subst (λ (i : ℕ). reaches_root nodes (suc k) i ≡ true) (sym (at_is n p hit)) r)
    | inr miss ↦ elim (away nodes n k x.parent up h) [
      | inl far ↦ inl (reaches_below (without_numbered_node nodes n) k p x (at_without nodes n p up ∙ rw miss e) far)
      | inr (j, le, near) ↦ inr (j, (let more : j ≤ suc k = omega arith in more), near)
    ]
  ]
]

short_by : (bound k : ℕ) (nodes : List Numbered) (n : ℕ) → k ≤ bound → IsItemTable is_before item_of_node nodes → reaches_root nodes k n ≡ true → reaches_root nodes (length nodes) n ≡ true
short_by bound zero nodes n le t r = at_root nodes (length nodes) n (at_zero nodes n r)
short_by zero (suc k) nodes n le t r = absurd (omega arith)
short_by (suc bound) (suc k) nodes n le t r = elim (at_or_below nodes k n r) [
  | inl z ↦ at_root nodes (length nodes) n z
  | inr (x, e, h) ↦ elim (away nodes n k x.parent t.0 h) [
    | inl far ↦
        let less : k ≤ bound = omega arith in
        let up = short_by bound k (without_numbered_node nodes n) x.parent less (without_items nodes n t) far in
        subst (λ (i : ℕ). reaches_root nodes i n ≡ true) (length_without nodes n x e)
        (reaches_below nodes (length (without_numbered_node nodes n)) n x e (reaches_in (without_numbered_node nodes n) nodes (keeps_rest nodes n t.0) (length (without_numbered_node nodes n)) x.parent up))
    | inr (j, near, there) ↦ let less : j ≤ bound = omega arith in short_by bound j nodes n less t there
  ]
]

pub short_way : (nodes : List Numbered) (k n : ℕ) → IsItemTable is_before item_of_node nodes → reaches_root nodes k n ≡ true → reaches_root nodes (length nodes) n ≡ true
short_way nodes k n t r = let le : k ≤ k = omega arith in short_by k k nodes n le t r

-- ---- a parent is there

pub parent_there : (nodes : List Numbered) (n : ℕ) (node : Node) → IsNodeTable nodes → node_at nodes n ≡ Some node → (node.parent ≡ 0) ⊎ ((above : Node) × (node_at nodes node.parent ≡ Some above))
parent_there nodes n node t e = up (length nodes) refl where
  number_some : n ≡ 0 → ⊥
  number_some z = let some : 0 < n = (number_is_some n node (item_at nodes n node t.items e)).0 in absurd (omega arith)

  above : (k : ℕ) → reaches_root nodes k node.parent ≡ true → (node.parent ≡ 0) ⊎ ((above : Node) × (node_at nodes node.parent ≡ Some above))
  above k r = elim (at_or_below nodes k node.parent (more k r)) [
    | inl z ↦ inl z
    | inr (x, f, h) ↦ inr (x, f)
  ] where
    more : (k : ℕ) → reaches_root nodes k node.parent ≡ true → reaches_root nodes (suc k) node.parent ≡ true
    more k r = let one : k + 1 ≡ suc k = omega arith in subst (λ (i : ℕ). reaches_root nodes i node.parent ≡ true) one (reaches_more nodes k 1 node.parent r)

  up : (k : ℕ) → length nodes ≡ k → (node.parent ≡ 0) ⊎ ((above : Node) × (node_at nodes node.parent ≡ Some above))
  up k same = elim (at_or_below nodes (length nodes) n (let one : length nodes + 1 ≡ suc (length nodes) = omega arith in subst (λ (i : ℕ). reaches_root nodes i n ≡ true) one (reaches_more nodes (length nodes) 1 n (t.rule.rooted n node e)))) [
    | inl z ↦ absurd (number_some z)
    | inr (x, f, h) ↦ above (length nodes) (subst (λ (y : Node). reaches_root nodes (length nodes) y.parent ≡ true) (some_is x node (sym f ∙ e)) h)
  ]

-- where a new node may hang: below the root or a directory
abbrev pub MayHang : List Numbered → ℕ → Type 0
MayHang nodes parent = (parent ≡ 0) ⊎ ((above : Node) × (node_at nodes parent ≡ Some above) × IsTrue (is_directory above))

-- ---- a new node

pub item_number : (n : ℕ) (node : Node) → is_item (node_item n node) ≡ true → n ≡ 0 → ⊥
item_number n node ok z = let some : 0 < n = (number_is_some n node ok).0 in absurd (omega arith)

-- a node is the new one, or was there
pub new_or_was : (nodes : List Numbered) (n : ℕ) (node : Node) (m : ℕ) (x : Node) → node_at (with_numbered_node nodes n node) m ≡ Some x → ((m ≡ n) × (x ≡ node)) ⊎ ((m ≡ n → ⊥) × (node_at nodes m ≡ Some x))
new_or_was nodes n node m x e = elim (either (is_at (nat_cmp n) m)) [
  | inl hit ↦ inl (sym (at_is n m hit), some_is x node (sym e ∙ (at_with nodes n node m ∙ rw hit refl)))
  | inr miss ↦ inr (λ z. true≢false (sym (subst (λ (k : ℕ). is_at (nat_cmp n) k ≡ true) (sym z) (at_self n)) ∙ miss), sym (at_with nodes n node m ∙ rw miss refl) ∙ e)
]

-- nothing hangs below the new node
pub none_below_new : (nodes : List Numbered) (n : ℕ) (node : Node) → IsNodeTable nodes → node_at nodes n ≡ None → is_item (node_item n node) ≡ true → MayHang nodes node.parent
    → (m : ℕ) (x : Node) → node_at (with_numbered_node nodes n node) m ≡ Some x → x.parent ≡ n → ⊥
none_below_new nodes n node t free ok hang m x e p = elim (new_or_was nodes n node m x e) [
  | inl (same, is) ↦ elim hang [
    | inl z ↦ item_number n node ok (sym (ap (λ (y : Node). y.parent) (sym is) ∙ p) ∙ z)
    | inr (above, f, d) ↦ none-some above (sym free ∙ (ap (λ (k : ℕ). node_at nodes k) (sym (ap (λ (y : Node). y.parent) (sym is) ∙ p)) ∙ f))
  ]
  | inr (other, f) ↦ elim (parent_there nodes m x t f) [
    | inl z ↦ item_number n node ok (sym p ∙ z)
    | inr (above, g) ↦ none-some above (sym free ∙ (ap (λ (k : ℕ). node_at nodes k) (sym p) ∙ g))
  ]
]

pub put_keeps_table : (nodes : List Numbered) (n : ℕ) (node : Node) → IsNodeTable nodes → node_at nodes n ≡ None → is_item (node_item n node) ≡ true → MayHang nodes node.parent → child nodes node.parent (folded node.name) ≡ None
    → IsNodeTable (with_numbered_node nodes n node)
put_keeps_table nodes n node t free ok hang alone = record { items = items; rule = record { parents = parents; rooted = rooted; distinct = distinct } } where
  items : IsItemTable is_before item_of_node (with_numbered_node nodes n node)
  items = with_items nodes n node ok t.items

  was : (m : ℕ) (x : Node) → node_at (with_numbered_node nodes n node) m ≡ Some x → ((m ≡ n) × (x ≡ node)) ⊎ ((m ≡ n → ⊥) × (node_at nodes m ≡ Some x))
  was m x e = new_or_was nodes n node m x e

  keeps : KeepsParents nodes (with_numbered_node nodes n node)
  keeps k x e = elim (either (is_at (nat_cmp n) k)) [
    | inl hit ↦ absurd (none-some x (sym free ∙ (ap (λ (m : ℕ). node_at nodes m) (at_is n k hit) ∙ e)))
    | inr miss ↦ (x, at_with nodes n node k ∙ rw miss e, refl)
  ]

  parents : (m : ℕ) (x parent : Node) → node_at (with_numbered_node nodes n node) m ≡ Some x → node_at (with_numbered_node nodes n node) x.parent ≡ Some parent → IsTrue (is_directory parent)
  parents m x parent e f = elim (was x.parent parent f) [
    | inl (same, is) ↦ absurd (none_below_new nodes n node t free ok hang m x e same)
    | inr (other, g) ↦ elim (was m x e) [
      | inl (same, is) ↦ elim hang [
        | inl z ↦ absurd (none-some parent (sym (no_root nodes t) ∙ (ap (λ (k : ℕ). node_at nodes k) (sym z ∙ ap (λ (y : Node). y.parent) (sym is)) ∙ g)))
        | inr (above, h, d) ↦ subst (λ (y : Node). IsTrue (is_directory y)) (some_is above parent (sym h ∙ (ap (λ (k : Node). node_at nodes k.parent) (sym is) ∙ g))) d
      ]
      | inr (apart, h) ↦ t.rule.parents m x parent h g
    ]
  ]

  rooted : (m : ℕ) (x : Node) → node_at (with_numbered_node nodes n node) m ≡ Some x → IsTrue (reaches_root (with_numbered_node nodes n node) (length (with_numbered_node nodes n node)) m)
  rooted m x e = elim (was m x e) [
    | inr (apart, h) ↦ short_way (with_numbered_node nodes n node) (length nodes) m items (reaches_in nodes (with_numbered_node nodes n node) keeps (length nodes) m (t.rule.rooted m x h))
    | inl (same, is) ↦ short_way (with_numbered_node nodes n node) (suc (length nodes)) m items
        (reaches_below (with_numbered_node nodes n node) (length nodes) m x e (reaches_in nodes (with_numbered_node nodes n node) keeps (length nodes) x.parent (above (ap (λ (y : Node). y.parent) is))))
  ] where
    above : x.parent ≡ node.parent → reaches_root nodes (length nodes) x.parent ≡ true
    above p = elim hang [
      | inl z ↦ at_root nodes (length nodes) x.parent (p ∙ z)
      | inr (y, f, d) ↦ subst (λ (k : ℕ). reaches_root nodes (length nodes) k ≡ true) (sym p) (t.rule.rooted node.parent y f)
    ]

  distinct : (i j : ℕ) (a b : Node) → node_at (with_numbered_node nodes n node) i ≡ Some a → node_at (with_numbered_node nodes n node) j ≡ Some b → a.parent ≡ b.parent → folded a.name ≡ folded b.name → i ≡ j
  distinct i j a b e f p q = elim (was i a e) [
    | inl (same, is) ↦ elim (was j b f) [
      | inl (again, is2) ↦ same ∙ sym again
      | inr (apart, g) ↦ absurd (none-some j (sym alone ∙ child_at nodes node.parent (folded node.name) j t (record { node = b; at = g; parent_is = sym p ∙ ap (λ (y : Node). y.parent) is; name_is = sym q ∙ ap (λ (y : Node). folded y.name) is })))
    ]
    | inr (apart, g) ↦ elim (was j b f) [
      | inl (again, is2) ↦ absurd (none-some i (sym alone ∙ child_at nodes node.parent (folded node.name) i t (record { node = a; at = g; parent_is = p ∙ ap (λ (y : Node). y.parent) is2; name_is = q ∙ ap (λ (y : Node). folded y.name) is2 })))
      | inr (apart2, h) ↦ t.rule.distinct i j a b g h p q
    ]
  ]

-- ---- nodes that go

-- Some nodes are gone, below which nothing hangs.
pub record Pruned (big small : List Numbered) (gone : ℕ → Bool) : Type 0 where
  pub stay : (m : ℕ) → gone m ≡ false → node_at small m ≡ node_at big m
  pub left : (m : ℕ) → gone m ≡ true → node_at small m ≡ None
  pub leaves : (m : ℕ) (x : Node) → node_at big m ≡ Some x → gone x.parent ≡ false

pub was_there : (big small : List Numbered) (gone : ℕ → Bool) (m : ℕ) (x : Node) → Pruned big small gone → node_at small m ≡ Some x → (gone m ≡ false) × (node_at big m ≡ Some x)
was_there big small gone m x p e = elim (either (gone m)) [
  | inl hit ↦ absurd (none-some x (sym (p.left m hit) ∙ e))
  | inr miss ↦ (miss, sym (p.stay m miss) ∙ e)
]

pub pruned_keeps_table : (big small : List Numbered) (gone : ℕ → Bool) → IsNodeTable big → Pruned big small gone → IsItemTable is_before item_of_node small → IsNodeTable small
pruned_keeps_table big small gone t p items = record { items = items; rule = record { parents = parents; rooted = rooted; distinct = distinct } } where
  there : (m : ℕ) (x : Node) → node_at small m ≡ Some x → node_at big m ≡ Some x
  there m x e = (was_there big small gone m x p e).1

  parents : (m : ℕ) (x parent : Node) → node_at small m ≡ Some x → node_at small x.parent ≡ Some parent → IsTrue (is_directory parent)
  parents m x parent e f = t.rule.parents m x parent (there m x e) (there x.parent parent f)

  reach : (k m : ℕ) → gone m ≡ false → reaches_root big k m ≡ true → reaches_root small k m ≡ true
  reach zero m stays r = subst (λ (i : ℕ). reaches_root small zero i ≡ true) (sym (at_zero big m r)) (at_root small zero 0 refl)
  reach (suc k) m stays r = elim (at_or_below big k m r) [
    | inl z ↦ at_root small (suc k) m z
    | inr (x, e, h) ↦ reaches_below small k m x (p.stay m stays ∙ e) (reach k x.parent (p.leaves m x e) h)
  ]

  rooted : (m : ℕ) (x : Node) → node_at small m ≡ Some x → IsTrue (reaches_root small (length small) m)
  rooted m x e =
      let w = was_there big small gone m x p e in
      short_way small (length big) m items (reach (length big) m w.0 (t.rule.rooted m x w.1))

  distinct : (i j : ℕ) (a b : Node) → node_at small i ≡ Some a → node_at small j ≡ Some b → a.parent ≡ b.parent → folded a.name ≡ folded b.name → i ≡ j
  distinct i j a b e f q r = t.rule.distinct i j a b (there i a e) (there j b f) q r
