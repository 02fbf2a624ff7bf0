use Rattle.change_directory.proofs.Loaded.{dues_stand}
use Rattle.change_directory.proofs.laws.dues_stand.Goals as goal

pub returns : goal.returns
returns c = λ copy pages x shaped sized loaded none. dues_stand copy shaped pages x sized loaded none
