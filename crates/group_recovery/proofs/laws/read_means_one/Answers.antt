use Rattle.group_recovery.proofs.Mounting.{read_means}
use Rattle.group_recovery.proofs.laws.read_means_one.Goals as goal

pub returns : goal.returns
returns c = read_means
