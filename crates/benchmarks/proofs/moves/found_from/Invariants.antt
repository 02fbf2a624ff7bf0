use Rattle.rebalance.specs.Cursors.{IsCursor}
use Rattle.benchmarks.proofs.moves.found_from.Given as goal

abbrev pub invariant-loop : goal.invariant-loop
invariant-loop l = IsCursor l.catalog l.status l.cursor
