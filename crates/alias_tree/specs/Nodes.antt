-- The tree of names, as the list of its nodes in the order of their numbers.
use Rattle.std.specs.Prelude.{◌≡◌, ℕ, zero, suc, Bool, true, false, ◌&&◌, ◌||◌, ◌==◌, List, [], ◌∷◌, length, map, Option, Some, None, IsTrue, not, if◌then◌else◌}
use Rattle.std.specs.Ordering.{nat_cmp, is_lt}
use Rattle.std.specs.List.{list_any}
use Rattle.std.specs.List.Sorted.{IsStrictlySortedBy}
use Rattle.std.specs.Cmp.Lexicographic.{slice_cmp}
use Rattle.std.specs.Option.{option_and_then}
use Rattle.std.specs.BTreeMap.{is_at, insert_entry}
use Rattle.std.specs.Map.{lookup, remove_entry}
use Rattle.std.specs.Str.{bytes_eq}
use Rattle.asm_group.specs.declared.NodeKind.{NodeKind}
use Rattle.asm_group.specs.Names.{Bytes, Path, folded}
use Rattle.asm_formats.specs.Items.{Item, node_item, Key, Node, nodes_kind}
use Rattle.asm_base.specs.Records.{DirectoryRecord}
use Rattle.asm_base.specs.Tables.{IsItemTable, item_record}
pub use Rattle.asm_formats.specs.Items.{is_directory_kind as kind_is_directory}

-- a node with its number
abbrev pub Numbered : Type 0
Numbered = ℕ × Node

abbrev pub item_of_node : Numbered → Item
item_of_node x = node_item x.0 x.1

abbrev pub node_of_item : Item → Option Numbered
node_of_item (node_item n node) = Some (n, node)
node_of_item _ = None

abbrev pub record_of_node : Numbered → DirectoryRecord
record_of_node x = item_record (item_of_node x)

abbrev pub is_key_of_node : Key → Bool
is_key_of_node k = k.kind == nodes_kind

abbrev pub is_before : ℕ → ℕ → Bool
is_before m n = is_lt (nat_cmp m n)

abbrev pub node_at : List Numbered → ℕ → Option Node
node_at nodes n = lookup (is_at (nat_cmp n)) nodes

abbrev pub with_numbered_node : List Numbered → ℕ → Node → List Numbered
with_numbered_node nodes n node = insert_entry nat_cmp nodes n node

abbrev pub without_numbered_node : List Numbered → ℕ → List Numbered
without_numbered_node nodes n = remove_entry (is_at (nat_cmp n)) nodes

-- ---- the rule

abbrev pub is_directory : Node → Bool
is_directory node = kind_is_directory node.kind

-- at most so many steps up lead from a node to the root
unfoldable pub reaches_root : List Numbered → ℕ → ℕ → Bool
reaches_root nodes zero n = n == 0
reaches_root nodes (suc steps) n = (n == 0) || up (λ m. reaches_root nodes steps m) (node_at nodes n)
  where
    up : (ℕ → Bool) → Option Node → Bool
    up go None = false
    up go (Some node) = go node.parent

pub record KeepsRule (nodes : List Numbered) : Type 0 where
  -- each node's parent is the root or a directory, and its parents lead to the root
  pub parents : (n : ℕ) (node parent : Node) → node_at nodes n ≡ Some node → node_at nodes node.parent ≡ Some parent → IsTrue (is_directory parent)
  pub rooted : (n : ℕ) (node : Node) → node_at nodes n ≡ Some node → IsTrue (reaches_root nodes (length nodes) n)
  -- no two nodes of one parent have names that are equal when folded
  pub distinct : (m n : ℕ) (a b : Node) → node_at nodes m ≡ Some a → node_at nodes n ≡ Some b → a.parent ≡ b.parent → folded a.name ≡ folded b.name → m ≡ n

-- nodes of the formats in the order of their numbers, which keep the rule
pub record IsNodeTable (nodes : List Numbered) : Type 0 where
  pub items : IsItemTable is_before item_of_node nodes
  pub rule : KeepsRule nodes

-- ---- paths

-- the node of this parent and folded name
abbrev pub child : List Numbered → ℕ → Bytes → Option ℕ
child [] parent name = None
child (x ∷ nodes) parent name = if (x.1.parent == parent) && bytes_eq (folded x.1.name) name then Some x.0 else child nodes parent name

-- the node at the end of a path from node n on, where names are compared without case; the root is 0
abbrev pub number_from : List Numbered → ℕ → Path → Option ℕ
number_from nodes n [] = Some n
number_from nodes n (part ∷ parts) = option_and_then (λ m. number_from nodes m parts) (child nodes n (folded part))

unfoldable pub number_of : List Numbered → Path → Option ℕ
number_of nodes path = number_from nodes 0 path

-- the node at a number is one of this parent
abbrev pub has_parent : ℕ → Option Node → Bool
has_parent parent None = false
has_parent parent (Some node) = node.parent == parent

abbrev pub is_under_parent : List Numbered → ℕ → ℕ → Bool
is_under_parent nodes parent n = has_parent parent (node_at nodes n)

abbrev pub are_distinct : List ℕ → Bool
are_distinct [] = true
are_distinct (n ∷ ns) = not (list_any (λ m. m == n) ns) && are_distinct ns

-- the name of a node without case, and of the node at a number
abbrev pub folded_in : Option Node → Bytes
folded_in None = []
folded_in (Some node) = folded node.name

abbrev pub folded_name : List Numbered → ℕ → Bytes
folded_name nodes n = folded_in (node_at nodes n)

-- the numbers are in the order of their nodes' names without case, and no two nodes have one name
abbrev pub AreByName : List Numbered → List ℕ → Type 0
AreByName nodes numbers = IsStrictlySortedBy (slice_cmp nat_cmp) (map (folded_name nodes) numbers)

-- ---- how the rule is tested

-- the parent is the root, a directory, or not there
abbrev pub parent_is_right : Option Node → Bool
parent_is_right None = true
parent_is_right (Some parent) = is_directory parent

abbrev pub is_right : List Numbered → Numbered → Bool
is_right nodes x = parent_is_right (node_at nodes x.1.parent) && reaches_root nodes (length nodes) x.0
