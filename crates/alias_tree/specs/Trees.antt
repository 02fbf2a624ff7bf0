-- The tree of names that a list of nodes stands for.
use Rattle.std.specs.Prelude.{ℕ, zero, suc, List, [], ◌∷◌, ◌++◌, length, map, Option, Some, None}
use Rattle.std.specs.FinMap as maps
use Rattle.std.specs.Option.{option_and_then}
use Rattle.asm_group.specs.Names.{Path, folded}
use Rattle.asm_group.specs.TreeEdits.{Tree}
use Rattle.asm_formats.specs.Items.{Node}
use Rattle.asm_formats.specs.Nodes.{entry_of_node}
use Rattle.alias_tree.specs.Nodes.{Numbered, node_at, child}

-- the folded names on the way down to a node, of at most so many steps
unfoldable pub way_to : List Numbered → ℕ → ℕ → Path
way_to nodes zero n = []
way_to nodes (suc steps) n = below (λ m. way_to nodes steps m) (node_at nodes n)
  where
    below : (ℕ → Path) → Option Node → Path
    below go None = []
    below go (Some node) = go node.parent ++ folded node.name ∷ []

-- each node under its folded path
unfoldable pub tree_of : List Numbered → Tree
tree_of nodes = maps.from_entries (map (λ (x : Numbered). (way_to nodes (length nodes) x.0, entry_of_node x.1)) nodes)

-- ---- look-up by folded names

-- the node at the end of a path of folded names, from node n on
abbrev pub number_by : List Numbered → ℕ → Path → Option ℕ
number_by nodes n [] = Some n
number_by nodes n (name ∷ names) = option_and_then (λ m. number_by nodes m names) (child nodes n name)

abbrev pub node_by : List Numbered → Path → Option Node
node_by nodes names = option_and_then (λ n. node_at nodes n) (number_by nodes 0 names)
