use Rattle.change_directory.proofs.Regions.{steps_stay_inside}
use Rattle.change_directory.proofs.laws.steps_stay_inside.Goals as goal

pub returns : goal.returns
returns c = steps_stay_inside
