use Rattle.directory_store.proofs.Present.{absent_is_apart}
use Rattle.directory_store.proofs.laws.absent_is_apart.Goals as goal

pub returns : goal.returns
returns c = absent_is_apart
