use Rattle.catalog_laws.proofs.MoveItems.{moves_items}
use Rattle.catalog_laws.proofs.laws.a_planned_move_is_a_move.Goals as goal

pub returns : goal.returns
returns c = moves_items
