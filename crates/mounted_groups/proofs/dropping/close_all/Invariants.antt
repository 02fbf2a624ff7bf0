use Rattle.mounted_groups.specs.Dropping.{ClosesHeaders}
use Rattle.mounted_groups.proofs.dropping.close_all.Given as goal

abbrev pub invariant-loop-number : goal.invariant-loop-number
invariant-loop-number g l = ClosesHeaders l.m l.number (g.B.Bay.state l.fn.bay) (g.B.Bay.state l.bay)
