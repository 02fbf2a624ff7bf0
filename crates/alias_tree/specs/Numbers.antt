-- Numbers that are free, and those of the names of a file.
use Rattle.std.specs.Prelude.{◌≡◌, ℕ, ◌<◌, Bool, false, List, [], ◌∷◌, Option, Some, None, IsTrue, is_some}
use Rattle.asm_group.specs.TreeEdits as e
use Rattle.asm_formats.specs.Items.{Node}
use Rattle.asm_formats.specs.Nodes.{node_kind}
use Rattle.alias_tree.specs.Nodes.{Numbered, node_at, without_numbered_node}

-- the least number from 1 that no node has
pub record IsLeastFree (nodes : List Numbered) (n : ℕ) : Type 0 where
  pub some : 0 < n
  pub free : node_at nodes n ≡ None
  pub least : (k : ℕ) → 0 < k → k < n → IsTrue (is_some (node_at nodes k))

-- the least number above another that no node has
pub record IsFreeAbove (nodes : List Numbered) (last number : ℕ) : Type 0 where
  pub above : last < number
  pub free : node_at nodes number ≡ None
  pub least : (k : ℕ) → last < k → k < number → IsTrue (is_some (node_at nodes k))

abbrev pub is_name_of : ℕ → Option Node → Bool
is_name_of file None = false
is_name_of file (Some node) = e.names_file file (node_kind node.kind node.file)

abbrev pub without_all : List Numbered → List ℕ → List Numbered
without_all nodes [] = nodes
without_all nodes (n ∷ ns) = without_all (without_numbered_node nodes n) ns
