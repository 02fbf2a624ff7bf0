-- Which node breaks the rule of the tree.
use Rattle.std.specs.Prelude.{◌≡◌, ◌⊎◌, ℕ, List, map, not, find, Some}
use Rattle.asm_base.specs.Records.{DirectoryRecord, of_kinds}
use Rattle.asm_base.specs.Tables.{IsItemTable}
use Rattle.alias_tree.specs.Nodes.{KeepsRule, Numbered, is_before, is_key_of_node, is_right, item_of_node, record_of_node}
use Rattle.alias_tree.specs.Places.{Clash}

-- the first node whose parent is another than the root or a directory, or whose parents don't lead to the root
pub record IsUnrooted (nodes : List Numbered) (n : ℕ) : Type 0 where
  pub x : Numbered
  pub first : find (λ y. not (is_right nodes y)) nodes ≡ Some x
  pub number : n ≡ x.0

-- a node that has the parent and, when folded, the name of an earlier one
pub record IsTwin (nodes : List Numbered) (n : ℕ) : Type 0 where
  pub clash : Clash nodes
  pub number : n ≡ clash.x.0

-- the records are nodes in order, of which this one breaks the rule
pub record HasFault (records : List DirectoryRecord) (n : ℕ) : Type 0 where
  pub nodes : List Numbered
  pub items : IsItemTable is_before item_of_node nodes
  pub same : of_kinds is_key_of_node records ≡ map record_of_node nodes
  pub fault : IsUnrooted nodes n ⊎ IsTwin nodes n

-- each table of nodes that has these records keeps the rule of the tree
abbrev pub IsWithoutFault : List DirectoryRecord → Type 0
IsWithoutFault records = (nodes : List Numbered) → IsItemTable is_before item_of_node nodes → of_kinds is_key_of_node records ≡ map record_of_node nodes → KeepsRule nodes
