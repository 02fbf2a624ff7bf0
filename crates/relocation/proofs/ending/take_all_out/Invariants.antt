use Rattle.resync.specs.group_engine.Members.{LetsGo}
use Rattle.resync.specs.group_engine.Mounts.{IsMounted}
use Rattle.relocation.proofs.ending.take_all_out.Given as goal

abbrev pub invariant-loop-disk : goal.invariant-loop-disk
invariant-loop-disk g l = record {
  mounted : IsMounted l.m;
  lets : LetsGo l.fn.m l.m (g.B.Bay.state l.fn.bay) (g.B.Bay.state l.bay);
}
