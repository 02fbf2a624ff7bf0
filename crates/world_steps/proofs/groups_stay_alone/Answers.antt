use Rattle.world_steps.proofs.Told.{groups_stay_alone}
use Rattle.world_steps.proofs.groups_stay_alone.Goals as goal

pub returns : goal.returns
returns c = groups_stay_alone
