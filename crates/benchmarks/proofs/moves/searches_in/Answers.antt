use Rattle.benchmarks.proofs.moves.searches_in.Goals as goal

pub make_next-requires-clause-cursor : goal.make_next-requires-clause-cursor
make_next-requires-clause-cursor c = c.start-cursor.ensures c.args.catalog.now c.args.status.now
