use Rattle.change_directory.proofs.Afterwards.{logging_is_put}
use Rattle.change_directory.proofs.laws.logging_is_put.Goals as goal

pub returns : goal.returns
returns c = λ copy number pages put x y ready step. logging_is_put copy number pages put x y ready step
