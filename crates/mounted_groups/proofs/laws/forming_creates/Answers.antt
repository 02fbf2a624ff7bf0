use Rattle.mounted_groups.proofs.Forming.{forming_creates}
use Rattle.mounted_groups.proofs.laws.forming_creates.Goals as goal

pub returns : goal.returns
returns c = forming_creates
