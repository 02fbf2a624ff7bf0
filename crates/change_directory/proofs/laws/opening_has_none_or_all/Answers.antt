use Rattle.change_directory.proofs.Copies.{opening_has}
use Rattle.change_directory.proofs.laws.opening_has_none_or_all.Goals as goal

pub returns : goal.returns
returns c = λ copy number page x y put is step. opening_has copy number page x y put is step
