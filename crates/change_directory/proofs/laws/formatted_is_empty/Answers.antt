use Rattle.change_directory.proofs.Copies.{formatted_is_empty}
use Rattle.change_directory.proofs.laws.formatted_is_empty.Goals as goal

pub returns : goal.returns
returns c = formatted_is_empty
