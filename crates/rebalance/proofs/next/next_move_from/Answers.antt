use Rattle.rebalance.proofs.Falling.{next_falls}
use Rattle.rebalance.proofs.next.next_move_from.Goals as goal

pub returns-clause-falls : goal.returns-clause-falls
returns-clause-falls c = next_falls c.args.catalog.now c.args.status.now c.next_in.result c.next_in.ensures.rules c.requires.status c.next_in.ensures.next
