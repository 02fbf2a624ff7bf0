-- The tree of names in a directory content, and its rules.
use Rattle.std.specs.Prelude.{◌≡◌, ℕ, zero, suc, Bool, true, false, ◌&&◌, ◌||◌, List, [], ◌∷◌, length, ◌==◌, Option, Some, None, IsTrue}
use Rattle.std.specs.Str.{bytes_eq}
use Rattle.asm_group.specs.declared.NodeKind.{NodeKind}
use Rattle.asm_group.specs.declared.NodeKind.TheVariants.{System, Alias}
use Rattle.asm_group.specs.Names.{Bytes, Path, folded}
use Rattle.asm_formats.specs.Items.{Item, node_item, FileHead, Node}
use Rattle.asm_placement.specs.Naming.{is_kind_directory, is_named_as, names_back}
use Rattle.asm_placement.specs.Tables.{first_said, if_is, head_of}
use Rattle.asm_images.specs.Tables.{node_of}

-- a node of this parent and folded name
abbrev pub is_child_item : ℕ → Bytes → Item → Bool
is_child_item parent name (node_item n node) = (node.parent == parent) && bytes_eq (folded node.name) name
is_child_item parent name _ = false

abbrev pub child_node : List Item → ℕ → Bytes → Option (ℕ × Node)
child_node items parent name = first_said says items
  where
    says : Item → Option (ℕ × Node)
    says (node_item n node) = if_is (is_child_item parent name (node_item n node)) (n, node)
    says _ = None

-- the node at the end of a path of folded names, from node n on, which is at
abbrev pub walk_to_node : List Item → ℕ → Option Node → Path → Option Node
walk_to_node items n at [] = at
walk_to_node items n at (name ∷ names) = next (λ m node. walk_to_node items m (Some node) names) (child_node items n name)
  where
    next : (ℕ → Node → Option Node) → Option (ℕ × Node) → Option Node
    next go None = None
    next go (Some c) = go c.0 c.1

-- the node at a path from the root
unfoldable pub node_at_path : List Item → Path → Option Node
node_at_path items path = walk_to_node items 0 None path

-- at most so many steps up lead from a node to the root
abbrev pub reaches_root_in_items : List Item → ℕ → ℕ → Bool
reaches_root_in_items items zero n = n == 0
reaches_root_in_items items (suc steps) n = (n == 0) || up (λ m. reaches_root_in_items items steps m) (node_of items n)
  where
    up : (ℕ → Bool) → Option Node → Bool
    up go None = false
    up go (Some node) = go node.parent

-- ---- rules

-- a system or alias node names a file that names it
abbrev pub is_named_back_in_items : List Item → ℕ → Node → Bool
is_named_back_in_items items n node = is_kind_directory node.kind || names_back node.kind n (head_of items node.file)

-- 0, or a node of this kind that names the file
abbrev pub names_file_in_items : List Item → ℕ → NodeKind → ℕ → Bool
names_file_in_items items f kind n = (n == 0) || is_named_as kind f (node_of items n)

pub record KeepsTreeRules (items : List Item) : Type 0 where
  -- each node's parent is the root or a directory, and its parents lead to the root
  pub parents : (n : ℕ) (node parent : Node) → node_of items n ≡ Some node → node_of items node.parent ≡ Some parent → IsTrue (is_kind_directory parent.kind)
  pub rooted : (n : ℕ) (node : Node) → node_of items n ≡ Some node → IsTrue (reaches_root_in_items items (length items) n)
  -- no two nodes of one parent have names that are equal when folded
  pub distinct : (m n : ℕ) (a b : Node) → node_of items m ≡ Some a → node_of items n ≡ Some b → a.parent ≡ b.parent → folded a.name ≡ folded b.name → m ≡ n
  -- nodes and files name each other
  pub nodes : (n : ℕ) (node : Node) → node_of items n ≡ Some node → IsTrue (is_named_back_in_items items n node)
  pub system : (f : ℕ) (head : FileHead) → head_of items f ≡ Some head → IsTrue (names_file_in_items items f System head.system)
  pub alias : (f : ℕ) (head : FileHead) → head_of items f ≡ Some head → IsTrue (names_file_in_items items f Alias head.alias)
