use Rattle.change_directory.proofs.Copies.{homing_keeps, homed_settles}
use Rattle.change_directory.proofs.laws.homed_settles.Goals as goal

pub returns : goal.returns
returns c = λ copy pages number page x y shaped has due homed.
    ((homing_keeps copy shaped pages number page x y has due homed.elsewhere).0, homed_settles copy shaped pages number page x y has due homed.elsewhere homed)
