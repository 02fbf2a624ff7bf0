use Rattle.std.proofs.Common.{◌≤◌, ◌*◌}
use Rattle.rebalance.proofs.Sharing.{AreSums}
use Rattle.rebalance.proofs.shares.sums.Given as goal

abbrev pub invariant-loop-disk : goal.invariant-loop-disk
invariant-loop-disk l = record {
  sums : AreSums l.units l.disks l.shares l.disk-index;
  small : l.shares.units ≤ l.disk-index * 4294967296;
}
