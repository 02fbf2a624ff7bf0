-- The path of a node, as the nodes spell it.
use Rattle.std.specs.Prelude.{ℕ, zero, suc, List, [], ◌∷◌, ◌++◌, Option, Some, None}
use Rattle.asm_group.specs.Names.{Path}
use Rattle.asm_formats.specs.Items.{Node}
use Rattle.alias_tree.specs.Nodes.{Numbered, node_at}

-- the names on the way down to a node, of at most so many steps, as the nodes spell them
unfoldable pub names_to : List Numbered → ℕ → ℕ → Path
names_to nodes zero n = []
names_to nodes (suc steps) n = below (λ m. names_to nodes steps m) (node_at nodes n)
  where
    below : (ℕ → Path) → Option Node → Path
    below go None = []
    below go (Some node) = go node.parent ++ node.name ∷ []
