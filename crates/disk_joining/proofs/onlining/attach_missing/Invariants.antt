use Rattle.std.proofs.Common.{◌≡◌}
use Rattle.disk_joining.specs.Taking.{TakesIn}
use Rattle.disk_joining.proofs.onlining.attach_missing.Given as goal

abbrev pub invariant-loop-number : goal.invariant-loop-number
invariant-loop-number g l = record {
  taken : TakesIn l.fn.held l.fn.m l.m (g.B.Bay.state l.fn.bay) (g.B.Bay.state l.fn.bay);
  same : l.m.access ≡ l.fn.m.access;
}
