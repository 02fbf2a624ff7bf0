use Rattle.std.proofs.Common.{◌-◌}
use Rattle.file_extents.specs.group_engine.Own.{KeepsGroup}
use Rattle.resync.proofs.copying.copy_whole.Given as goal

abbrev pub invariant-loop-copied : goal.invariant-loop-copied
invariant-loop-copied g l = KeepsGroup l.m l.m (g.B.Bay.state l.fn.bay) (g.B.Bay.state l.bay)

abbrev pub decreases-loop-copied : goal.decreases-loop-copied
decreases-loop-copied g l = l.size - l.copied
