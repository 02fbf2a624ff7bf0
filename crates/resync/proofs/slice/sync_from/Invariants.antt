use Rattle.file_extents.specs.group_engine.Mounts.{IsMounted}
use Rattle.file_extents.specs.group_engine.Own.{KeepsGroup}
use Rattle.resync.proofs.slice.sync_from.Given as goal

abbrev pub invariant-loop-done : goal.invariant-loop-done
invariant-loop-done g l = record {
  mounted : IsMounted l.m;
  keeps : KeepsGroup l.fn.m l.m (g.B.Bay.state l.fn.bay) (g.B.Bay.state l.bay);
}
