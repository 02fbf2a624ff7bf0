-- The names of a file go one by one.
use Rattle.std.proofs.Common.{◌≡◌, ℕ, suc, ◌<◌, true, false, cond, List, length, Option, Some, None, refl, sym, ap, ◌∙◌, arith, inl, inr, ◌⊎◌}
use Rattle.std.specs.BTreeMap.{is_at}
use Rattle.std.specs.List.{list_any}
use Rattle.std.specs.Ordering.{nat_cmp}
use Rattle.std.proofs.lemmas.Bool.{true≢false}
use Rattle.asm_group.specs.TreeEdits.{names_file}
use Rattle.asm_formats.specs.Items.{Node}
use Rattle.alias_edits.specs.Edits.{RemovesNames}
use Rattle.alias_tree.specs.Numbers.{is_name_of}
use Rattle.alias_tree.specs.Nodes.{Numbered, node_at, without_numbered_node, IsNodeTable}
use Rattle.asm_formats.specs.Nodes.{node_kind}
use Rattle.alias_edits.proofs.Done.{gone_table}
use Rattle.alias_tree.proofs.FileNodes.{none_below_file, named_node}
use Rattle.alias_tree.proofs.IndexLaws.{either, at_is, at_member}
use Rattle.alias_tree.proofs.Keeping.{at_without, length_without}
use Rattle.alias_tree.proofs.Leading.{any_of, member_among}

-- some names of the file are gone, and all else stays
pub record NamesSoFar (old now : List Numbered) (file : ℕ) : Type 0 where
  pub table : IsNodeTable now
  pub kept : (m : ℕ) → (node_at now m ≡ node_at old m) ⊎ ((node_at now m ≡ None) × (is_name_of file (node_at old m) ≡ true))

pub names_begin : (nodes : List Numbered) (file : ℕ) → IsNodeTable nodes → NamesSoFar nodes nodes file
names_begin nodes file t = record { table = t; kept = λ m. inl refl }

pub name_gone_table : (nodes : List Numbered) (file n : ℕ) → IsNodeTable nodes → is_name_of file (node_at nodes n) ≡ true → IsNodeTable (without_numbered_node nodes n)
name_gone_table nodes file n t e = let x = named_node nodes file n e in gone_table nodes n t (none_below_file nodes n x.0 t x.1 x.2)

pub names_shorter : (nodes : List Numbered) (file n : ℕ) → is_name_of file (node_at nodes n) ≡ true → length (without_numbered_node nodes n) < length nodes
names_shorter nodes file n e = let x = named_node nodes file n e in let l : suc (length (without_numbered_node nodes n)) ≡ length nodes = length_without nodes n x.0 x.1 in omega arith

pub names_step : (old now : List Numbered) (file n : ℕ) → NamesSoFar old now file → is_name_of file (node_at now n) ≡ true → NamesSoFar old (without_numbered_node now n) file
names_step old now file n s e = record { table = name_gone_table now file n s.table e; kept = kept } where
  kept : (m : ℕ) → (node_at (without_numbered_node now n) m ≡ node_at old m) ⊎ ((node_at (without_numbered_node now n) m ≡ None) × (is_name_of file (node_at old m) ≡ true))
  kept m = elim (either (is_at (nat_cmp n) m)) [
    | inl hit ↦
        let gone : node_at (without_numbered_node now n) m ≡ None = at_without now n m s.table.items.0 ∙ rw hit refl in
        elim (s.kept m) [
          | inl same ↦ inr (gone, ap (is_name_of file) (sym same) ∙ (ap (λ (k : ℕ). is_name_of file (node_at now k)) (sym (at_is n m hit)) ∙ e))
          | inr (none, named) ↦ inr (gone, named)
        ]
    | inr miss ↦
        let stays : node_at (without_numbered_node now n) m ≡ node_at now m = at_without now n m s.table.items.0 ∙ rw miss refl in
        elim (s.kept m) [ inl same ↦ inl (stays ∙ same) | inr (none, named) ↦ inr (stays ∙ none, named) ]
  ]

pub names_end : (old now : List Numbered) (file : ℕ) → NamesSoFar old now file → false ≡ list_any (λ (x : Numbered). names_file file (node_kind x.1.kind x.1.file)) now → RemovesNames old now file
names_end old now file s none m = elim (s.kept m) [
  | inr (gone, named) ↦ gone ∙ rw named refl
  | inl same ↦ same ∙ sym (one (node_at old m) same)
] where
  one : (o : Option Node) → node_at now m ≡ o → cond (is_name_of file o) None o ≡ o
  one None e = refl
  one (Some x) e = elim (either (names_file file (node_kind x.kind x.file))) [
    | inl hit ↦ absurd (true≢false (sym (any_of (λ (y : Numbered). names_file file (node_kind y.1.kind y.1.file)) now (m, x) (member_among now (m, x) (at_member now m x e)) hit) ∙ sym none))
    | inr miss ↦ rw miss refl
  ]
