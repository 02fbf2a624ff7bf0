use Rattle.group_pieces.specs.group_engine.Mounts.{IsMounted}
use Rattle.group_pieces.specs.group_engine.Own.{KeepsGroup}
use Rattle.file_extents.specs.Filling.{FailsMore}
use Rattle.file_extents.proofs.filling.put_zeros.Given as goal

abbrev pub invariant-loop : goal.invariant-loop
invariant-loop g l = record {
  mounted : IsMounted l.m;
  keeps : KeepsGroup l.fn.m l.m (g.B.Bay.state l.fn.bay) (g.B.Bay.state l.bay);
  failed : FailsMore l.fn.m l.fn.filling.failed l.filling.failed (g.B.Bay.state l.fn.bay) (g.B.Bay.state l.bay);
}
