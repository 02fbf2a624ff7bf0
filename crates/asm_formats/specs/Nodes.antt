-- What the group's users see of a node.
use Rattle.std.specs.Prelude.{ℕ}
use Rattle.asm_group.specs.declared.NodeKind.{NodeKind}
use Rattle.asm_group.specs.declared.NodeKind.TheVariants.{Directory, System, Alias}
use Rattle.asm_group.specs.Group.{TreeNode, Dir, TreeEntry}
use Rattle.asm_group.specs.Group as group
use Rattle.asm_formats.specs.Items.{Node}

abbrev pub node_kind : NodeKind → ℕ → TreeNode
node_kind Directory file = Dir
node_kind System file = group.System file
node_kind Alias file = group.Alias file

abbrev pub entry_of_node : Node → TreeEntry
entry_of_node node = record { name = node.name; node = node_kind node.kind node.file }
