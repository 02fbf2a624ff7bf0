use Rattle.change_directory.proofs.Elsewhere.{other_copy_is_same}
use Rattle.change_directory.proofs.laws.other_copy_is_same.Goals as goal

pub returns : goal.returns
returns c = other_copy_is_same
