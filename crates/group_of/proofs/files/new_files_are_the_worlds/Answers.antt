use Rattle.group_of.proofs.NewFiles.{new_file_is_worlds, new_name_is_worlds}
use Rattle.group_of.proofs.files.new_files_are_the_worlds.Goals as goal

pub returns : goal.returns
returns c = record { group = new_name_is_worlds; file = new_file_is_worlds }
