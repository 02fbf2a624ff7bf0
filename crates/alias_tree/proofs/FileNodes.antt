-- The nodes that are names of a file may go.
use Rattle.std.proofs.Common.{◌≡◌, ℕ, Bool, true, false, cond, eqb, List, [], ◌∷◌, Option, Some, None, refl, sym, ap, ◌∙◌, inl, inr}
use Rattle.std.specs.Prelude.{◌||◌}
use Rattle.std.specs.BTreeMap.{is_at}
use Rattle.std.specs.List.{list_any}
use Rattle.std.specs.Ordering.{nat_cmp}
use Rattle.std.proofs.lemmas.Bool.{true≢false, eqb-true, eq-eqb}
use Rattle.asm_group.specs.declared.NodeKind.{NodeKind}
use Rattle.asm_group.specs.declared.NodeKind.TheVariants.{Directory, System, Alias}
use Rattle.asm_group.specs.TreeEdits.{names_file}
use Rattle.asm_formats.specs.Items.{Node}
use Rattle.asm_formats.specs.Nodes.{node_kind}
use Rattle.asm_base.specs.Tables.{IsItemTable}
use Rattle.alias_tree.specs.Nodes.{IsNodeTable, Numbered, is_before, is_directory, item_of_node, kind_is_directory, node_at, without_numbered_node}
use Rattle.alias_tree.specs.Numbers.{is_name_of, without_all}
use Rattle.alias_tree.proofs.IndexLaws.{either, at_is, at_self}
use Rattle.alias_tree.proofs.Keeping.{Pruned, at_without, pruned_keeps_table, without_items}

-- nothing hangs below a file
pub none_below_file : (nodes : List Numbered) (n : ℕ) (node : Node) → IsNodeTable nodes → node_at nodes n ≡ Some node → is_directory node ≡ false → (m : ℕ) (x : Node) → node_at nodes m ≡ Some x → x.parent ≡ n → ⊥
none_below_file nodes n node t at file m x e p =
    true≢false (sym (t.rule.parents m x node e (ap (λ (k : ℕ). node_at nodes k) p ∙ at)) ∙ file)

pub named_node : (nodes : List Numbered) (file n : ℕ) → is_name_of file (node_at nodes n) ≡ true → (node : Node) × (node_at nodes n ≡ Some node) × (is_directory node ≡ false)
named_node nodes file n e = one (node_at nodes n) refl e where
  of_kind : (kind : NodeKind) (m : ℕ) → names_file file (node_kind kind m) ≡ true → kind_is_directory kind ≡ false
  of_kind Directory m h = absurd (true≢false (sym h))
  of_kind System m h = refl
  of_kind Alias m h = refl

  one : (o : Option Node) → node_at nodes n ≡ o → is_name_of file o ≡ true → (node : Node) × (node_at nodes n ≡ Some node) × (is_directory node ≡ false)
  one None f h = absurd (true≢false (sym h))
  one (Some node) f h = (node, f, of_kind node.kind node.file h)

-- ---- nodes that go one after the other

abbrev has : ℕ → List ℕ → Bool
has n ns = list_any (λ m. eqb m n) ns

all_items : (nodes : List Numbered) (ns : List ℕ) → IsItemTable is_before item_of_node nodes → IsItemTable is_before item_of_node (without_all nodes ns)
all_items nodes [] t = t
all_items nodes (n ∷ ns) t = all_items (without_numbered_node nodes n) ns (without_items nodes n t)

same_test : (m n : ℕ) → eqb m n ≡ is_at (nat_cmp m) n
same_test m n = elim (either (is_at (nat_cmp m) n)) [
  | inl hit ↦ eq-eqb m n (at_is m n hit) ∙ sym hit
  | inr miss ↦ elim (either (eqb m n)) [
    | inr other ↦ other ∙ sym miss
    | inl same ↦ absurd (true≢false (sym (ap (λ (k : ℕ). is_at (nat_cmp m) k) (sym (eqb-true m n same)) ∙ at_self m) ∙ miss))
  ]
]

at_without_all : (nodes : List Numbered) (ns : List ℕ) (n : ℕ) → IsItemTable is_before item_of_node nodes → node_at (without_all nodes ns) n ≡ cond (has n ns) None (node_at nodes n)
at_without_all nodes [] n t = refl
at_without_all nodes (m ∷ ns) n t = at_without_all (without_numbered_node nodes m) ns n (without_items nodes m t) ∙ one (eqb m n) refl where
  out : (b : Bool) → ◌≡◌ {A = Option Node} (cond b None None) None
  out true = refl
  out false = refl

  one : (b : Bool) → eqb m n ≡ b → cond (has n ns) None (node_at (without_numbered_node nodes m) n) ≡ cond (b || has n ns) None (node_at nodes n)
  one true hit = ap (λ (o : Option Node). cond (has n ns) None o) (at_without nodes m n t.0 ∙ rw (sym (same_test m n) ∙ hit) refl) ∙ out (has n ns)
  one false miss = ap (λ (o : Option Node). cond (has n ns) None o) (at_without nodes m n t.0 ∙ rw (sym (same_test m n) ∙ miss) refl)

abbrev AreNames : List Numbered → ℕ → List ℕ → Type 0
AreNames nodes file ns = (n : ℕ) → has n ns ≡ is_name_of file (node_at nodes n)

pub names_at : (nodes : List Numbered) (file : ℕ) (ns : List ℕ) → IsItemTable is_before item_of_node nodes → AreNames nodes file ns → (n : ℕ) → node_at (without_all nodes ns) n ≡ cond (is_name_of file (node_at nodes n)) None (node_at nodes n)
names_at nodes file ns t are n = at_without_all nodes ns n t ∙ ap (λ (b : Bool). cond b None (node_at nodes n)) (are n)

-- The names of a file may go.
pub names_gone_table : (nodes : List Numbered) (file : ℕ) (ns : List ℕ) → IsNodeTable nodes → ((n : ℕ) → list_any (λ m. eqb m n) ns ≡ is_name_of file (node_at nodes n)) → IsNodeTable (without_all nodes ns)
names_gone_table nodes file ns t are = pruned_keeps_table nodes (without_all nodes ns) (λ m. is_name_of file (node_at nodes m)) t pruned (all_items nodes ns t.items) where
  leaves : (m : ℕ) (x : Node) → node_at nodes m ≡ Some x → is_name_of file (node_at nodes x.parent) ≡ false
  leaves m x at = elim (either (is_name_of file (node_at nodes x.parent))) [
    | inr miss ↦ miss
    | inl hit ↦
        let y = named_node nodes file x.parent hit in
        absurd (none_below_file nodes x.parent y.0 t y.1 y.2 m x at refl)
  ]

  pruned : Pruned nodes (without_all nodes ns) (λ m. is_name_of file (node_at nodes m))
  pruned = record {
    stay = λ m miss. names_at nodes file ns t.items are m ∙ rw miss refl;
    left = λ m hit. names_at nodes file ns t.items are m ∙ rw hit refl;
    leaves = leaves;
  }
