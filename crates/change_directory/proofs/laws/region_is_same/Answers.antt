use Rattle.change_directory.proofs.Elsewhere.{region_is_same}
use Rattle.change_directory.proofs.laws.region_is_same.Goals as goal

pub returns : goal.returns
returns c = λ copy x y shaped sized same. region_is_same copy shaped x y sized same
