use Rattle.change_directory.proofs.Copies.{unopened_opens}
use Rattle.change_directory.proofs.laws.unopened_opens.Goals as goal

pub returns : goal.returns
returns c = λ copy number page x y put is logged. unopened_opens copy number page x y put is logged
