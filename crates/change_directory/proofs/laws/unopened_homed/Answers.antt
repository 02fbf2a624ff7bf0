use Rattle.change_directory.proofs.Copies.{unopened_homed}
use Rattle.change_directory.proofs.laws.unopened_homed.Goals as goal

pub returns : goal.returns
returns c = unopened_homed
