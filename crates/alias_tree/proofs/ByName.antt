-- The numbers of one parent's nodes are in the order of their names.
use Rattle.std.proofs.Common.{◌≡◌, ℕ, Bool, true, eqb, List, [], ◌∷◌, map, Some, refl, sym, ap, ◌∙◌, inl, inr}
use Rattle.std.specs.Cmp.Lexicographic.{slice_cmp}
use Rattle.std.specs.List.{AllByRecursion}
use Rattle.std.specs.List.Sorted.{IsStrictlySortedBy}
use Rattle.std.specs.Map.{keys_of}
use Rattle.std.specs.Ordering.{nat_cmp}
use Rattle.std.specs.declared.cmp.Ordering.TheVariants.{Less}
use Rattle.std.proofs.lemmas.Bool.{eqb-true}
use Rattle.asm_formats.specs.Items.{Node}
use Rattle.asm_group.specs.Names.{Bytes, folded}
use Rattle.alias_tree.specs.Nodes.{AreByName, IsNodeTable, Numbered, folded_in, folded_name, node_at}
use Rattle.alias_tree.specs.Places.{IsIndex, Place, StandsAt, number_at_place, numbers_under, place_cmp, place_of}
use Rattle.alias_tree.proofs.IndexLaws.{either, stands}
use Rattle.alias_tree.proofs.NameBytes.{is_part_at, names_less}
use Rattle.alias_tree.proofs.PlaceLaws.{self_same}
use Rattle.alias_tree.proofs.Under.{Index, behind_first, keeps, kept, place_between}

-- each number is that of a node with this place
abbrev AllStand : List Numbered → Index → Type 0
AllStand nodes places = AllByRecursion (λ (e : Place × ℕ). StandsAt (node_at nodes e.1) e.0) places

all_stand : (nodes : List Numbered) (places : Index) → IsStrictlySortedBy place_cmp (keys_of places) → ((p : Place) (n : ℕ) → number_at_place places p ≡ Some n → StandsAt (node_at nodes n) p) → AllStand nodes places
unfolding IsStrictlySortedBy
all_stand nodes [] up only = tt
all_stand nodes (f ∷ places) up only = (only f.0 f.1 (rw (self_same f.0) refl), all_stand nodes places up.1 (λ p n e. only p n (behind_first f places p n up e)))

named_at : (nodes : List Numbered) (n : ℕ) (node : Node) → node_at nodes n ≡ Some node → folded_name nodes n ≡ folded node.name
named_at nodes n node e = ap folded_in e

-- a parent of a place that is kept
abbrev Keeps : List Numbered → (Place → Bool) → ℕ → Type 0
Keeps nodes keep parent = (n : ℕ) (node : Node) → node_at nodes n ≡ Some node → keep (place_of node) ≡ eqb node.parent parent

parent_of : (nodes : List Numbered) (keep : Place → Bool) (parent n : ℕ) (node : Node) (p : Place) → Keeps nodes keep parent → node_at nodes n ≡ Some node → place_of node ≡ p → keep p ≡ true → node.parent ≡ parent
parent_of nodes keep parent n node p keeps e at k = eqb-true node.parent parent (sym (keeps n node e) ∙ (ap keep at ∙ k))

-- the names behind a kept one are above it
all_above : (nodes : List Numbered) (keep : Place → Bool) (parent m : ℕ) (node : Node) (p : Place) (places : Index) → IsNodeTable nodes → Keeps nodes keep parent → node_at nodes m ≡ Some node → place_of node ≡ p → keep p ≡ true
    → AllByRecursion (λ (q : Place). place_cmp p q ≡ Less) (keys_of places) → AllStand nodes places → AllByRecursion (λ (x : Bytes). slice_cmp nat_cmp (folded_name nodes m) x ≡ Less) (map (folded_name nodes) (kept keep places))
all_above nodes keep parent m node p [] t keeps e at k above stand = tt
all_above nodes keep parent m node p (f ∷ places) t keeps e at k above stand = elim (either (keep f.0)) [
  | inr out ↦ rw out (all_above nodes keep parent m node p places t keeps e at k above.1 stand.1)
  | inl held ↦
      let s = stands nodes f.1 f.0 stand.0 in
      let one : node.parent ≡ parent = parent_of nodes keep parent m node p keeps e at k in
      let two : s.0.parent ≡ parent = parent_of nodes keep parent f.1 s.0 f.0 keeps s.1 s.2 held in
      let less : place_cmp (place_of node) (place_of s.0) ≡ Less = ap (λ (q : Place). place_cmp q (place_of s.0)) at ∙ (ap (place_cmp p) s.2 ∙ above.0) in
      let names : slice_cmp nat_cmp (folded node.name) (folded s.0.name) ≡ Less = names_less node s.0 (is_part_at nodes m node t e) (is_part_at nodes f.1 s.0 t s.1) (one ∙ sym two) less in
      let here : slice_cmp nat_cmp (folded_name nodes m) (folded_name nodes f.1) ≡ Less = ap (λ (x : Bytes). slice_cmp nat_cmp x (folded_name nodes f.1)) (named_at nodes m node e) ∙ (ap (slice_cmp nat_cmp (folded node.name)) (named_at nodes f.1 s.0 s.1) ∙ names) in
      rw held (here, all_above nodes keep parent m node p places t keeps e at k above.1 stand.1)
]

in_order : (nodes : List Numbered) (keep : Place → Bool) (parent : ℕ) (places : Index) → IsNodeTable nodes → Keeps nodes keep parent → IsStrictlySortedBy place_cmp (keys_of places) → AllStand nodes places → AreByName nodes (kept keep places)
unfolding IsStrictlySortedBy
in_order nodes keep parent [] t keeps up stand = tt
in_order nodes keep parent (f ∷ places) t keeps up stand = elim (either (keep f.0)) [
  | inr out ↦ rw out (in_order nodes keep parent places t keeps up.1 stand.1)
  | inl held ↦
      let s = stands nodes f.1 f.0 stand.0 in
      rw held (all_above nodes keep parent f.1 s.0 f.0 places t keeps s.1 s.2 held up.0 stand.1, in_order nodes keep parent places t keeps up.1 stand.1)
]

pub under_by_name : (nodes : List Numbered) (places : Index) (parent : ℕ) (numbers : List ℕ) → IsNodeTable nodes → IsIndex nodes places → IsStrictlySortedBy place_cmp (keys_of places) → numbers ≡ numbers_under places parent → AreByName nodes numbers
under_by_name nodes places parent numbers t i up is =
    rw is (in_order nodes (keeps parent) parent places t (λ n node e. place_between nodes n node parent t e) up (all_stand nodes places up i.only))
