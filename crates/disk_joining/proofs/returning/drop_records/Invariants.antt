use Rattle.file_extents.specs.group_engine.Mounts.{IsMounted}
use Rattle.file_extents.specs.group_engine.Own.{KeepsGroup}
use Rattle.disk_joining.proofs.returning.drop_records.Given as goal

abbrev pub invariant-loop-disk : goal.invariant-loop-disk
invariant-loop-disk g l = record {
  mounted : IsMounted l.m;
  keeps : KeepsGroup l.fn.m l.m (g.B.Bay.state l.fn.bay) (g.B.Bay.state l.bay);
}
