-- The tree in the midst of a change of records.
use Rattle.std.specs.Prelude.{◌≡◌, ℕ, List, Option, Some, None}
use Rattle.std.specs.Option.{option_map}
use Rattle.asm_formats.specs.Items.{Key, Node, node_item}
use Rattle.asm_formats.specs.Values.{decoded_item, value}
use Rattle.asm_base.specs.Tables.{IsItemTable}
use Rattle.alias_tree.specs.Nodes.{Numbered, is_before, item_of_node, node_at}
use Rattle.alias_tree.specs.Places.{place_of}

-- the value of the record of a node
abbrev pub node_value_at : List Numbered → ℕ → Option (List ℕ)
node_value_at nodes n = option_map value (option_map (node_item n) (node_at nodes n))

-- nodes of the formats in the order of their numbers, whether they keep the tree's rule or not
abbrev pub AreNodes : List Numbered → Type 0
AreNodes nodes = IsItemTable is_before item_of_node nodes

-- a record isn't a node's, or another node has the parent and the folded name that it says
pub data Refuses (nodes : List Numbered) (k : Key) (bytes : List ℕ) : Type 0 where
  unreadable_node : decoded_item k bytes ≡ None → Refuses nodes k bytes
  place_taken : (node : Node) → decoded_item k bytes ≡ Some (node_item k.a node) → (m : ℕ) (other : Node) → node_at nodes m ≡ Some other → place_of other ≡ place_of node → Refuses nodes k bytes
