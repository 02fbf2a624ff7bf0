use Rattle.rebalance.specs.Cursors.{IsCursor}
use Rattle.rebalance.specs.Searching.{IsStatusOf}
use Rattle.table_tests.proofs.rebalances.group.wrong_in.Given as goal

abbrev pub invariant-loop-place : goal.invariant-loop-place
invariant-loop-place l = record {
  status : IsStatusOf l.catalog l.status;
  cursor : IsCursor l.catalog l.status l.cursor;
}
