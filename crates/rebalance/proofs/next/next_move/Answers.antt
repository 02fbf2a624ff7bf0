use Rattle.rebalance.proofs.next.next_move.Goals as goal

pub next_move_from-requires-clause-cursor : goal.next_move_from-requires-clause-cursor
next_move_from-requires-clause-cursor c = c.start-cursor.ensures c.args.catalog.now c.args.status.now
