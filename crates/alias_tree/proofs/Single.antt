-- A tree of one directory.
use Rattle.std.proofs.Common.{◌≡◌, ℕ, ◌≤◌, nat_le, List, length, true, [], ◌∷◌, Some, None, refl, sym, ap, ◌∙◌, inl, inr}
use Rattle.std.proofs.lemmas.Bool.{eq-eqb, leb-true, le-leb, true≢false}
use Rattle.std.proofs.lemmas.Option.{none-some}
use Rattle.asm_group.specs.Names.{is_part}
use Rattle.asm_formats.specs.Items.{Node}
use Rattle.asm_base.proofs.NameLaws.{part_is, part_of}
use Rattle.alias_tree.specs.Nodes.{node_at, with_numbered_node, reaches_root, IsNodeTable}
use Rattle.alias_tree.proofs.IndexLaws.{either, at_is}
use Rattle.std.specs.BTreeMap.{is_at}
use Rattle.std.specs.Ordering.{nat_cmp}
use Rattle.alias_tree.proofs.Readings.{single_item}

number_is : (n : ℕ) (node other : Node) → node_at ((1, node) ∷ []) n ≡ Some other → n ≡ 1
number_is n node other e = elim (either (is_at (nat_cmp n) 1)) [
  | inl hit ↦ at_is n 1 hit
  | inr miss ↦ absurd (none-some other (rw miss at e))
]

one_step : (node : Node) → node.parent ≡ 0 → reaches_root ((1, node) ∷ []) 1 1 ≡ true
unfolding reaches_root
one_step node e = eq-eqb node.parent 0 e

none_at_root : (node : Node) → node_at ((1, node) ∷ []) 0 ≡ None
none_at_root node = refl

pub one_node : (node : Node) → is_part 80 node.name ≡ true → node.parent ≡ 0 → node.file ≡ 0 → IsNodeTable (with_numbered_node [] 1 node)
one_node node name parent file = record {
  items = (tt, (single_item node name parent file, tt));
  rule = record {
    parents = λ n x above e f. absurd (no_parent n x above e f);
    rooted = λ n x e. rw (number_is n node x e) (one_step node parent);
    distinct = λ m n a b e f p q. number_is m node a e ∙ sym (number_is n node b f);
  };
} where
  no_parent : (n : ℕ) (x above : Node) → node_at ((1, node) ∷ []) n ≡ Some x → node_at ((1, node) ∷ []) x.parent ≡ Some above → ⊥
  no_parent n x above e f =
      let at : node_at ((1, node) ∷ []) 1 ≡ Some x = ap (λ (k : ℕ). node_at ((1, node) ∷ []) k) (sym (number_is n node x e)) ∙ e in
      let same : node ≡ x = cc in
      let root : x.parent ≡ 0 = ap (λ (y : Node). y.parent) (sym same) ∙ parent in
      none-some above (sym (none_at_root node) ∙ (ap (λ (k : ℕ). node_at ((1, node) ∷ []) k) (sym root) ∙ f))

-- a part of a path that is short
pub short_part : (name bytes : List ℕ) → bytes ≡ name → is_part 255 name ≡ true → length bytes ≤ 80 → is_part 80 name ≡ true
short_part name bytes is part short =
    let p = part_of 255 name part in
    part_is 80 name (record { made = p.made; some = p.some; few = rw (← is) short; no_point = p.no_point })

-- a part of a path is one of at most 80 bytes where it is so short
pub short_is_part : (name bytes : List ℕ) → bytes ≡ name → is_part 255 name ≡ true → nat_le (length bytes) 80 ≡ is_part 80 name
short_is_part name bytes is part = elim (either (nat_le (length bytes) 80)) [
  | inl short ↦ short ∙ sym (short_part name bytes is part (leb-true (length bytes) 80 short))
  | inr long ↦ elim (either (is_part 80 name)) [
    | inl e ↦ absurd (let few : length name ≤ 80 = (part_of 80 name e).few in true≢false (sym (le-leb (length bytes) 80 (rw is few)) ∙ long))
    | inr e ↦ long ∙ sym e
  ]
]
