use Rattle.group_of.proofs.Describes.{surplus_describes}
use Rattle.group_of.proofs.EditedGroups.{names_are_group}
use Rattle.group_of.proofs.describing.surplus_describes.Goals as goal

pub returns : goal.returns
returns c = record { names = names_are_group; same = surplus_describes }
