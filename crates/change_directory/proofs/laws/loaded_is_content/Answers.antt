use Rattle.change_directory.proofs.Loaded.{loaded_is_content}
use Rattle.change_directory.proofs.laws.loaded_is_content.Goals as goal

pub returns : goal.returns
returns c = λ copy pages x shaped sized loaded none. loaded_is_content copy shaped pages x sized loaded none
