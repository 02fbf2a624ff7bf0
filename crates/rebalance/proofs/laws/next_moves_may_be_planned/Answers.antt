use Rattle.rebalance.proofs.Planning.{may_be_planned, planned_regular}
use Rattle.rebalance.proofs.laws.next_moves_may_be_planned.Goals as goal

pub returns-clause-may : goal.returns-clause-may
returns-clause-may c = may_be_planned

pub returns-clause-regular : goal.returns-clause-regular
returns-clause-regular c = planned_regular
