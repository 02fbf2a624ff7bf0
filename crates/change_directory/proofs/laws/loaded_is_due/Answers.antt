use Rattle.change_directory.proofs.Loaded.{loaded_is_due}
use Rattle.change_directory.proofs.laws.loaded_is_due.Goals as goal

pub returns : goal.returns
returns c = λ copy pages dues x shaped sized loaded none are. loaded_is_due copy shaped pages x sized loaded none dues are
