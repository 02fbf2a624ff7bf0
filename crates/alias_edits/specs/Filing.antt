-- What the system name of a new file makes of the tree of names, and of its nodes.
use Rattle.std.specs.Prelude.{◌≡◌, ℕ, ◌+◌, ◌<◌, ◌≤◌, ◌==◌, Bool, false, ◌&&◌, ◌||◌, not, List, [], ◌∷◌, ◌++◌, length, take, drop, get_or, Some, None, Result, if◌then◌else◌}
use Rattle.std.specs.List.{All}
use Rattle.std.specs.Option.{option_map}
use Rattle.asm_group.specs.declared.NodeKind.TheVariants as kind
use Rattle.asm_group.specs.Names.{Bytes, Path, folded, folded_path}
use Rattle.asm_group.specs.Refusal as r
use Rattle.asm_group.specs.Causes.{Causes, first_cause, unless_refused}
use Rattle.asm_group.specs.Group.{Dir, System}
use Rattle.asm_group.specs.TreeEdits.{Tree, up, last_part, is_there, is_dir, is_dir_entry, with_node}
use Rattle.asm_formats.specs.Items.{Node}
use Rattle.asm_formats.specs.Nodes.{entry_of_node}
use Rattle.alias_tree.specs.Nodes.{Numbered, child, node_at, number_of}
use Rattle.alias_tree.specs.Nodes as n
use Rattle.alias_tree.specs.Trees.{number_by, tree_of}

-- ---- the tree of names

-- with a directory at the path, where nothing is there
abbrev pub with_dir : Tree → Path → Tree
with_dir t path = if is_there t path then t else with_node t path Dir

-- with the directories of these parts, from the top, below the front of a path
abbrev pub with_dirs : Tree → Path → Path → Tree
with_dirs t front [] = t
with_dirs t front (part ∷ parts) = with_dirs (with_dir t (front ++ part ∷ [])) (front ++ part ∷ []) parts

-- with the system name of a file, and each directory above it that is missing
abbrev pub with_file : Tree → Path → ℕ → Tree
with_file t path file = with_node (with_dirs t [] (up path)) path (System file)

-- something is at the path that isn't a directory
abbrev pub is_no_dir : Tree → Path → Bool
is_no_dir t path = is_there t path && not (is_dir t path)

-- that is so of some of these parts, below the front of a path
abbrev pub has_no_dir : Tree → Path → Path → Bool
has_no_dir t front [] = false
has_no_dir t front (part ∷ parts) = is_no_dir t (front ++ part ∷ []) || has_no_dir t (front ++ part ∷ []) parts

-- how many of these parts are missing, below the front of a path
abbrev pub missing_dirs : Tree → Path → Path → ℕ
missing_dirs t front [] = 0
missing_dirs t front (part ∷ parts) = (if is_there t (front ++ part ∷ []) then 0 else 1) + missing_dirs t (front ++ part ∷ []) parts

-- the nodes that the name of a new file makes: those of the directories that are missing, and its own
abbrev pub nodes_missing : Tree → Path → ℕ
nodes_missing t path = missing_dirs t [] (up path) + 1

-- a directory of the path is there as a file
abbrev pub has_file_above : Tree → Path → Bool
has_file_above t path = has_no_dir t [] (up path)

abbrev pub file_causes : Tree → Path → Causes
file_causes t path = (has_file_above t path, r.NotDirectory) ∷ (is_there t path, r.NameTaken) ∷ []

-- The tree with the name of a new file, or why it is refused.
abbrev pub tree_with_file : Tree → Path → ℕ → Result Tree r.Refusal
tree_with_file t path file = unless_refused (first_cause (file_causes t path)) (with_file t path file)

-- ---- the nodes

-- with each of these nodes, one after the other
abbrev pub with_nodes : List Numbered → List Numbered → List Numbered
with_nodes nodes [] = nodes
with_nodes nodes (x ∷ made) = with_nodes (n.with_numbered_node nodes x.0 x.1) made

-- The nodes of a new name: the directories that were missing, and then the name, to which its path leads.
pub record IsFiling (nodes made : List Numbered) (path : Path) (file : ℕ) : Type 0 where
  pub dirs : List Numbered
  pub number : ℕ
  pub node : Node
  pub split : made ≡ dirs ++ (number, node) ∷ []
  pub dirs_are : All (λ (x : Numbered). x.1.kind ≡ kind.Directory) dirs
  pub kind_is : node.kind ≡ kind.System
  pub file_is : node.file ≡ file
  pub name_is : node.name ≡ last_part path
  pub at : number_of (with_nodes nodes made) path ≡ Some number

-- ---- the way to them

-- names may hang below the node: it is the root or a directory
abbrev pub may_hang : List Numbered → ℕ → Bool
may_hang nodes number = (number == 0) || is_dir_entry (option_map entry_of_node (node_at nodes number))

-- so many of the directories are there, the last of them as this node; the root is 0
pub record ReachesDirectory (nodes : List Numbered) (dirs : Path) (there number : ℕ) : Type 0 where
  pub at : number_by nodes 0 (folded_path (take there dirs)) ≡ Some number
  pub no_dir : (is_no_dir (tree_of nodes) (take there dirs) || has_no_dir (tree_of nodes) (take there dirs) (drop there dirs)) ≡ has_no_dir (tree_of nodes) [] dirs
  pub missing : missing_dirs (tree_of nodes) (take there dirs) (drop there dirs) ≡ missing_dirs (tree_of nodes) [] dirs
  pub made : with_dirs (tree_of nodes) (take there dirs) (drop there dirs) ≡ with_dirs (tree_of nodes) [] dirs

-- these are all that are there
pub record IsFront (nodes : List Numbered) (dirs : Path) (there number : ℕ) : Type 0 where
  pub few : there ≤ length dirs
  pub reach : ReachesDirectory nodes dirs there number
  pub missing : (d : Bytes) → there < length dirs → child nodes number (folded (get_or dirs there d)) ≡ None

-- the name isn't there, where all directories are
abbrev pub IsFree : List Numbered → Path → ℕ → ℕ → Type 0
IsFree nodes path there number = there ≡ length (up path) → child nodes number (folded (last_part path)) ≡ None
