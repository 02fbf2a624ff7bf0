use Rattle.rebalance.proofs.Following.{marks_change_one, moves_change_one}
use Rattle.rebalance.proofs.laws.planned_moves_change_one_chunk.Goals as goal

pub returns-clause-moves : goal.returns-clause-moves
returns-clause-moves c = moves_change_one

pub returns-clause-marks : goal.returns-clause-marks
returns-clause-marks c = marks_change_one
