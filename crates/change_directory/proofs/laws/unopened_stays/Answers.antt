use Rattle.change_directory.proofs.Copies.{unopened_stays}
use Rattle.change_directory.proofs.laws.unopened_stays.Goals as goal

pub returns : goal.returns
returns c = λ copy pages x y shaped sized shut ok step. unopened_stays copy shaped x sized shut pages ok y step
