use Rattle.change_directory.proofs.Copies.{homing_keeps}
use Rattle.change_directory.proofs.laws.homing_keeps.Goals as goal

pub returns : goal.returns
returns c = λ copy pages number page x y shaped has due step. homing_keeps copy shaped pages number page x y has due step
