use Rattle.change_directory.proofs.Afterwards.{homed_are_at_home}
use Rattle.change_directory.proofs.laws.homed_are_at_home.Goals as goal

pub returns : goal.returns
returns c = λ copy number pages put x y z ready logged homed. homed_are_at_home copy number pages put x y ready logged z homed
