use Rattle.resync.specs.group_engine.Members.{LetsGo}
use Rattle.resync.specs.group_engine.Mounts.{IsMounted}
use Rattle.relocation.proofs.slicing.do_steps.Given as goal

abbrev pub invariant-loop-done : goal.invariant-loop-done
invariant-loop-done g l = record {
  mounted : IsMounted l.m;
  lets : LetsGo l.fn.m l.m (g.B.Bay.state l.fn.bay) (g.B.Bay.state l.bay);
}
