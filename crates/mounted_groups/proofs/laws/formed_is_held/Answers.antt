use Rattle.mounted_groups.proofs.Forming.{formed_is_held}
use Rattle.mounted_groups.proofs.laws.formed_is_held.Goals as goal

pub returns : goal.returns
returns c = formed_is_held
