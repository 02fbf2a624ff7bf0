use Rattle.change_directory.proofs.Afterwards.{logged_are_due}
use Rattle.change_directory.proofs.laws.logged_are_due.Goals as goal

pub returns : goal.returns
returns c = λ copy number pages put x y ready logged. logged_are_due copy number pages put x y ready logged
