use Rattle.std.proofs.Common.{◌≡◌}
use Rattle.disk_joining.specs.Taking.{TakesIn}
use Rattle.disk_joining.proofs.joined.attach_all.Given as goal

abbrev pub invariant-loop-disk : goal.invariant-loop-disk
invariant-loop-disk g l = record {
  taken : TakesIn l.fn.held l.fn.m l.m (g.B.Bay.state l.fn.bay) (g.B.Bay.state l.fn.bay);
  same : l.m.access ≡ l.fn.m.access;
  value : l.m.register.value ≡ l.fn.m.register.value;
}
