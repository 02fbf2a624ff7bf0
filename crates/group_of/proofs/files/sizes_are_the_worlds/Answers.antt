use Rattle.group_of.proofs.NewFiles.{size_is_worlds}
use Rattle.group_of.proofs.files.sizes_are_the_worlds.Goals as goal

pub returns : goal.returns
returns c = size_is_worlds
