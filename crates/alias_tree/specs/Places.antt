-- The index of the nodes by parent and name.
use Rattle.std.specs.Prelude.{◌≡◌, ℕ, ◌-◌, Bool, List, ◌++◌, length, replicate, Option, Some, None, ◌⊎◌, [], ◌∷◌, if◌then◌else◌, map}
use Rattle.std.specs.Ordering.{nat_cmp, ordering_then, is_eq}
use Rattle.std.specs.Cmp.Lexicographic.{slice_cmp}
use Rattle.std.specs.declared.cmp.Ordering.{Ordering}
use Rattle.std.specs.BTreeMap.{is_at}
use Rattle.std.specs.BTreeMap.Range.{entries_between}
use Rattle.std.specs.declared.ops.Bound.TheVariants.{Included}
use Rattle.std.specs.Map.{lookup}
use Rattle.asm_group.specs.Names.{Bytes, folded}
use Rattle.asm_formats.specs.Items.{Node}
use Rattle.alias_tree.specs.declared.places.Place as declared
use Rattle.alias_tree.specs.Nodes.{Numbered, node_at}

abbrev pub Place : Type 0
Place = declared.Place

-- the place of a name
unfoldable pub named_place : ℕ → Bytes → Place
named_place parent name = record { parent = parent; name = folded name ++ replicate (80 - length name) 0; len = length name }

abbrev pub place_of : Node → Place
place_of node = named_place node.parent node.name

abbrev pub place_cmp : Place → Place → Ordering
place_cmp p q = ordering_then (nat_cmp p.parent q.parent) (ordering_then (slice_cmp nat_cmp p.name q.name) (nat_cmp p.len q.len))

abbrev pub is_same_place : Place → Place → Bool
is_same_place p q = is_eq (place_cmp p q)

-- the number at a place
abbrev pub number_at_place : List (Place × ℕ) → Place → Option ℕ
number_at_place places p = lookup (is_at (place_cmp p)) places

-- there is a node, and this is its place
abbrev pub StandsAt : Option Node → Place → Type 0
StandsAt None p = ⊥
StandsAt (Some node) p = place_of node ≡ p

-- the index has just the places of the nodes
pub record IsIndex (nodes : List Numbered) (places : List (Place × ℕ)) : Type 0 where
  pub there : (n : ℕ) (node : Node) → node_at nodes n ≡ Some node → number_at_place places (place_of node) ≡ Some n
  pub only : (p : Place) (n : ℕ) → number_at_place places p ≡ Some n → StandsAt (node_at nodes n) p

-- the number at a place, where one place is left out
abbrev pub without_place : Option Place → Place → Option ℕ → Option ℕ
without_place None q number = number
without_place (Some p) q number = if is_same_place p q then None else number

-- ---- the run of a parent

-- before and behind the places of a parent's nodes, whose names have a first byte from 1 to 254
abbrev pub first_under : ℕ → Place
first_under parent = record { parent = parent; len = 0; name = replicate 80 0 }

abbrev pub last_under : ℕ → Place
last_under parent = record { parent = parent; len = 255; name = replicate 80 255 }

abbrev pub numbers_under : List (Place × ℕ) → ℕ → List ℕ
numbers_under places parent = map (λ (e : Place × ℕ). e.1) (entries_between place_cmp (Included (first_under parent)) (Included (last_under parent)) places)

-- ---- how the index is made

abbrev pub IsNodeAmong : Numbered → List Numbered → Type 0
IsNodeAmong x [] = ⊥
IsNodeAmong x (y ∷ nodes) = (x ≡ y) ⊎ IsNodeAmong x nodes

-- the index of some nodes
pub record Indexes (nodes : List Numbered) (places : List (Place × ℕ)) : Type 0 where
  pub there : (x : Numbered) → IsNodeAmong x nodes → number_at_place places (place_of x.1) ≡ Some x.0
  pub only : (p : Place) (n : ℕ) → number_at_place places p ≡ Some n → (node : Node) × IsNodeAmong (n, node) nodes × (place_of node ≡ p)

-- the nodes have an index: no two of them have one place
pub record HasIndex (nodes : List Numbered) : Type 0 where
  pub places : List (Place × ℕ)
  pub indexes : Indexes nodes places

-- the index of the nodes before those that are left
pub record SoFar (nodes left : List Numbered) (places : List (Place × ℕ)) : Type 0 where
  pub done : List Numbered
  pub split : done ++ left ≡ nodes
  pub indexes : Indexes done places

-- two nodes have one place
pub record Clash (nodes : List Numbered) : Type 0 where
  pub done : List Numbered
  pub x : Numbered
  pub left : List Numbered
  pub y : Numbered
  pub split : done ++ x ∷ left ≡ nodes
  pub earlier : IsNodeAmong y done
  pub same : place_of y.1 ≡ place_of x.1
