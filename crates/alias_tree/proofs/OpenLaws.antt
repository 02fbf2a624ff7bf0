-- One record more or less of an open tree, and one entry more of a copy.
use Rattle.std.proofs.Common.{◌≡◌, ℕ, ◌≤◌, true, cond, List, ◌∷◌, ◌++◌, length, Option, Some, None, refl, sym, ap, subst, ◌∙◌, inl, inr}
use Rattle.std.specs.Prelude.{is_some}
use Rattle.std.specs.Option.{option_map}
use Rattle.std.specs.Ordering.{nat_cmp}
use Rattle.std.specs.BTreeMap.{is_at}
use Rattle.std.specs.FinMap as maps
use Rattle.std.proofs.lemmas.Bool.{true≢false}
use Rattle.std.proofs.lemmas.Cmp.{nat_cmp_total}
use Rattle.asm_formats.specs.Items.{Key, Node, is_item, node_item}
use Rattle.asm_formats.specs.Values.{decoded_item, value}
use Rattle.asm_formats.proofs.Bodies.{item_codec}
use Rattle.asm_base.specs.Records.{Ascend}
use Rattle.asm_base.proofs.Copying.{copied_more}
use Rattle.asm_base.proofs.ItemTables.{put_keeps, removed_keeps}
use Rattle.alias_tree.specs.Nodes.{Numbered, is_before, item_of_node, node_at, with_numbered_node, without_numbered_node}
use Rattle.alias_tree.specs.Opening as opening
use Rattle.alias_tree.specs.Opening.{AreNodes, Refuses, node_value_at}
use Rattle.alias_tree.specs.Places.{IsIndex, Place, number_at_place, place_of}
use Rattle.alias_tree.proofs.IndexLaws.{at_is, either, stands}
use Rattle.alias_tree.proofs.Readings.{name_is_short}

node_of_record : (k : Key) (bytes : List ℕ) (node : Node) → option_map (node_item k.a) (Some node) ≡ decoded_item k bytes → (value (node_item k.a node) ≡ bytes) × (is_item (node_item k.a node) ≡ true)
node_of_record k bytes node e = let d = item_codec.decoded k bytes (node_item k.a node) (sym e) in (sym d.2, d.0)

pub name_of_record : (k : Key) (bytes : List ℕ) (node : Node) → option_map (node_item k.a) (Some node) ≡ decoded_item k bytes → length node.name ≤ 80
name_of_record k bytes node e = name_is_short k.a node (node_of_record k bytes node e).1

-- the node whose record is put is that of the record, and the others stay
pub record_put : (old new : List Numbered) (k : Key) (bytes : List ℕ) (node : Node) → option_map (node_item k.a) (Some node) ≡ decoded_item k bytes
    → ((n : ℕ) → node_at new n ≡ cond (is_at (nat_cmp k.a) n) (Some node) (node_at old n))
    → (n : ℕ) → node_value_at new n ≡ cond (is_at (nat_cmp k.a) n) (Some bytes) (node_value_at old n)
record_put old new k bytes node read all n = elim (either (is_at (nat_cmp k.a) n)) [
  | inl hit ↦ rw (all n, hit) (ap (λ (m : ℕ). Some (value (node_item m node))) (sym (at_is k.a n hit)) ∙ ap (λ (w : List ℕ). Some w) (node_of_record k bytes node read).0)
  | inr miss ↦ rw (all n, miss) refl
]

pub record_gone : (old new : List Numbered) (number : ℕ) → ((n : ℕ) → node_at new n ≡ cond (is_at (nat_cmp number) n) None (node_at old n))
    → (n : ℕ) → node_value_at new n ≡ cond (is_at (nat_cmp number) n) None (node_value_at old n)
record_gone old new number all n = elim (either (is_at (nat_cmp number) n)) [
  | inl hit ↦ rw (all n, hit) refl
  | inr miss ↦ rw (all n, miss) refl
]

pub put_keeps_nodes : (old new : List Numbered) (k : Key) (bytes : List ℕ) (node : Node) → option_map (node_item k.a) (Some node) ≡ decoded_item k bytes → new ≡ with_numbered_node old k.a node → AreNodes old → AreNodes new
put_keeps_nodes old new k bytes node read put are =
    subst (λ (ns : List Numbered). AreNodes ns) (sym put) (put_keeps nat_cmp nat_cmp_total maps.nat_cmp-IsAntisymmetric item_of_node old k.a node (node_of_record k bytes node read).1 are)

pub removed_keeps_nodes : (old new : List Numbered) (number : ℕ) → new ≡ without_numbered_node old number → AreNodes old → AreNodes new
removed_keeps_nodes old new number gone are = subst (λ (ns : List Numbered). AreNodes ns) (sym gone) (removed_keeps nat_cmp nat_cmp_total item_of_node (is_at (nat_cmp number)) old are)

-- nothing is decoded where nothing is read
pub not_read : (nodes : List Numbered) (k : Key) (bytes : List ℕ) → option_map (node_item k.a) None ≡ decoded_item k bytes → Refuses nodes k bytes
not_read nodes k bytes e = opening.unreadable_node (sym e)

-- another node has the place
pub is_taken : (nodes : List Numbered) (places : List (Place × ℕ)) (k : Key) (bytes : List ℕ) (node : Node) (at : Place) → option_map (node_item k.a) (Some node) ≡ decoded_item k bytes → IsIndex nodes places
    → at ≡ place_of node → is_some (number_at_place places at) ≡ true → Refuses nodes k bytes
is_taken nodes places k bytes node at read index is some = one (number_at_place places at) refl some where
  one : (o : Option ℕ) → number_at_place places at ≡ o → is_some o ≡ true → Refuses nodes k bytes
  one None e s = absurd (true≢false (sym s))
  one (Some m) e s =
      let other = stands nodes m at (index.only at m e) in
      opening.place_taken node (sym read) m other.0 other.1 (other.2 ∙ is)

pub copied : (whole done new rest : List Numbered) (n : ℕ) (node : Node) → Ascend is_before whole → done ++ (n, node) ∷ rest ≡ whole → new ≡ with_numbered_node done n node → new ++ rest ≡ whole
copied whole done new rest n node up e put = ap (λ (ns : List Numbered). ns ++ rest) put ∙ copied_more nat_cmp nat_cmp_total whole done rest n node up e
