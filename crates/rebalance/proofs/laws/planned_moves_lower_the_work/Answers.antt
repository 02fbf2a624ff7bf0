use Rattle.rebalance.proofs.Planning.{planned_falls}
use Rattle.rebalance.proofs.laws.planned_moves_lower_the_work.Goals as goal

pub returns : goal.returns
returns c = planned_falls
