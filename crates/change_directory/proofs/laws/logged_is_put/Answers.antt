use Rattle.change_directory.proofs.Afterwards.{logged_is_put}
use Rattle.change_directory.proofs.laws.logged_is_put.Goals as goal

pub returns : goal.returns
returns c = λ copy number pages put x y ready logged. logged_is_put copy number pages put x y ready logged
