-- The child of a name is found by its place.
use Rattle.std.proofs.Common.{◌≡◌, ℕ, ◌<◌, Bool, true, eqb, List, [], ◌∷◌, length, drop, get_or, suc, ◌+◌, add-one, drop-cons, Option, Some, None, refl, sym, ap, ◌∙◌, arith, inl, inr}
use Rattle.std.specs.Prelude.{◌&&◌}
use Rattle.std.specs.Str.{bytes_eq}
use Rattle.std.proofs.lemmas.Bool.{and_parts, eqb-true, eq-eqb, true≢false}
use Rattle.std.proofs.lemmas.List.{length-map}
use Rattle.std.proofs.lemmas.Option.{none-some}
use Rattle.std.proofs.lemmas.Slice.Eq.{bytes_eq-Decides}
use Rattle.asm_group.specs.Names.{Bytes, folded, folded_byte}
use Rattle.asm_formats.specs.Items.{Node}
use Rattle.asm_base.proofs.Exact.{some_is}
use Rattle.alias_tree.specs.Nodes.{Numbered, child, number_from, IsNodeTable}
use Rattle.alias_tree.specs.Places.{Place, named_place, number_at_place, IsIndex, IsNodeAmong}
use Rattle.alias_tree.proofs.PlaceLaws.{one_name, one_place}
use Rattle.alias_tree.proofs.IndexLaws.{either, at_member, member_at, name_at, stands}

-- the node of a parent and a folded name
pub record IsChild (nodes : List Numbered) (parent : ℕ) (name : Bytes) (n : ℕ) : Type 0 where
  pub node : Node
  pub member : IsNodeAmong (n, node) nodes
  pub parent_is : node.parent ≡ parent
  pub name_is : folded node.name ≡ name

abbrev is_it : Numbered → ℕ → Bytes → Bool
is_it x parent name = eqb x.1.parent parent && bytes_eq (folded x.1.name) name

pub child_some : (nodes : List Numbered) (parent : ℕ) (name : Bytes) (n : ℕ) → child nodes parent name ≡ Some n → IsChild nodes parent name n
child_some [] parent name n e = absurd (none-some n e)
child_some (x ∷ nodes) parent name n e = elim (either (is_it x parent name)) [
  | inl hit ↦
      let number : x.0 ≡ n = some_is x.0 n (rw hit at e) in
      let parts = and_parts (eqb x.1.parent parent) (bytes_eq (folded x.1.name) name) hit in
      record { node = x.1; member = inl (ap (λ (m : ℕ). (m, x.1)) (sym number)); parent_is = eqb-true x.1.parent parent parts.0; name_is = (bytes_eq-Decides (folded x.1.name) name).0 parts.1 }
  | inr miss ↦
      let c = child_some nodes parent name n (rw miss at e) in
      record { node = c.node; member = inr c.member; parent_is = c.parent_is; name_is = c.name_is }
]

pub child_none : (nodes : List Numbered) (parent : ℕ) (name : Bytes) → child nodes parent name ≡ None → (x : Numbered) → IsNodeAmong x nodes → x.1.parent ≡ parent → folded x.1.name ≡ name → ⊥
child_none [] parent name e x m p f = m
child_none (y ∷ nodes) parent name e x m p f = elim (either (is_it y parent name)) [
  | inl hit ↦ none-some y.0 (sym (rw hit at e))
  | inr miss ↦ elim m [
    | inl same ↦
        let at : eqb y.1.parent parent ≡ true = eq-eqb y.1.parent parent (ap (λ (z : Numbered). z.1.parent) (sym same) ∙ p) in
        let named : bytes_eq (folded y.1.name) name ≡ true = (bytes_eq-Decides (folded y.1.name) name).1 (ap (λ (z : Numbered). folded z.1.name) (sym same) ∙ f) in
        let both : is_it y parent name ≡ true = rw (at, named) refl in
        true≢false (sym both ∙ miss)
    | inr later ↦ child_none nodes parent name (rw miss at e) x later p f
  ]
]

pub child_is : (nodes : List Numbered) (places : List (Place × ℕ)) (parent : ℕ) (name : Bytes) → IsNodeTable nodes → IsIndex nodes places → number_at_place places (named_place parent name) ≡ child nodes parent (folded name)
child_is nodes places parent name t i = one (child nodes parent (folded name)) refl where
  none : (o : Option ℕ) → number_at_place places (named_place parent name) ≡ o → child nodes parent (folded name) ≡ None → o ≡ None
  none None e f = refl
  none (Some m) e f =
      let s = stands nodes m (named_place parent name) (i.only (named_place parent name) m e) in
      let names = one_name s.0.parent parent s.0.name name s.2 in
      absurd (child_none nodes parent (folded name) f (m, s.0) (at_member nodes m s.0 s.1) names.0 names.1)

  one : (o : Option ℕ) → child nodes parent (folded name) ≡ o → number_at_place places (named_place parent name) ≡ o
  one (Some n) e =
      let c = child_some nodes parent (folded name) n e in
      let there = i.there n c.node (member_at nodes (n, c.node) t.items.0 c.member) in
      ap (λ (p : Place). number_at_place places p) (sym (one_place c.node.parent parent c.node.name name c.parent_is c.name_is)) ∙ there
  one None e = none (number_at_place places (named_place parent name)) refl e

pub no_child : (nodes : List Numbered) (parent : ℕ) (name : Bytes) → IsNodeTable nodes → 80 < length name → None ≡ child nodes parent (folded name)
no_child nodes parent name t long = one (child nodes parent (folded name)) refl where
  one : (o : Option ℕ) → child nodes parent (folded name) ≡ o → None ≡ o
  one None e = refl
  one (Some n) e =
      let c = child_some nodes parent (folded name) n e in
      let short = name_at nodes n c.node t (member_at nodes (n, c.node) t.items.0 c.member) in
      let same : length c.node.name ≡ length name = sym (length-map c.node.name folded_byte) ∙ (ap (λ (xs : Bytes). length xs) c.name_is ∙ length-map name folded_byte) in
      absurd (omega arith)

-- ---- one part of a path

pub part_found : (nodes : List Numbered) (at m : ℕ) (part : Bytes) (parts : List Bytes) (whole : Option ℕ) → number_from nodes at (part ∷ parts) ≡ whole → Some m ≡ child nodes at (folded part) → number_from nodes m parts ≡ whole
part_found nodes at m part parts whole e c = rw (sym c) at e

pub part_missing : (nodes : List Numbered) (at : ℕ) (part : Bytes) (parts : List Bytes) (whole : Option ℕ) → number_from nodes at (part ∷ parts) ≡ whole → None ≡ child nodes at (folded part) → None ≡ whole
part_missing nodes at part parts whole e c = rw (sym c) at e

next_part : (i : ℕ) (part : Bytes) (parts : List Bytes) → i < length parts → part ≡ get_or parts i part → drop i parts ≡ part ∷ drop (i + 1) parts
next_part i part parts h is = drop-cons parts i part h ∙ (ap (λ (p : Bytes). p ∷ drop (suc i) parts) (sym is) ∙ rw add-one refl)

pub part_found_at : (nodes : List Numbered) (at m i : ℕ) (part : Bytes) (parts : List Bytes) (whole : Option ℕ) → number_from nodes at (drop i parts) ≡ whole → i < length parts → part ≡ get_or parts i part → Some m ≡ child nodes at (folded part)
    → number_from nodes m (drop (i + 1) parts) ≡ whole
part_found_at nodes at m i part parts whole e h is c = part_found nodes at m part (drop (i + 1) parts) whole (rw (next_part i part parts h is) at e) c

pub part_missing_at : (nodes : List Numbered) (at i : ℕ) (part : Bytes) (parts : List Bytes) (whole : Option ℕ) → number_from nodes at (drop i parts) ≡ whole → i < length parts → part ≡ get_or parts i part → None ≡ child nodes at (folded part)
    → None ≡ whole
part_missing_at nodes at i part parts whole e h is c = part_missing nodes at part (drop (i + 1) parts) whole (rw (next_part i part parts h is) at e) c
