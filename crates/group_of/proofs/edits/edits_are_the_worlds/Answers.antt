use Rattle.group_of.proofs.EditedGroups.{attribute_is_worlds, templates_are_worlds, tree_is_worlds, tree_keeps_cells}
use Rattle.group_of.proofs.edits.edits_are_the_worlds.Goals as goal

pub returns : goal.returns
returns c = record { tree = tree_is_worlds; cells = tree_keeps_cells; templates = templates_are_worlds; attributes = attribute_is_worlds }
