use Rattle.std.proofs.Common.{◌≡◌}
use Rattle.rebalance.specs.Sums.{below_from}
use Rattle.rebalance.proofs.shares.Shares.below.Given as goal

abbrev pub invariant-loop-k : goal.invariant-loop-k
invariant-loop-k l = l.bits ≡ below_from l.self l.n l.units l.k
