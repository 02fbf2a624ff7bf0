use Rattle.group_of.proofs.Removals.{removal_is_worlds, removal_keeps_cells}
use Rattle.group_of.proofs.files.removals_are_the_worlds.Goals as goal

pub returns : goal.returns
returns c = record { group = removal_is_worlds; cells = removal_keeps_cells }
