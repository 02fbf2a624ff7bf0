use Rattle.std.proofs.Common.{◌≡◌, ◌-◌, ◌≤◌, length}
use Rattle.group_pieces.specs.group_engine.Own.{KeepsGroup}
use Rattle.file_extents.specs.Filling.{FailsMore}
use Rattle.file_extents.proofs.filling.write_pieces.Given as goal

abbrev pub invariant-loop-done : goal.invariant-loop-done
invariant-loop-done g l = record {
  in_range : l.done ≤ length l.bytes;
  keeps : KeepsGroup l.m l.m (g.B.Bay.state l.fn.bay) (g.B.Bay.state l.bay);
  end : l.filling.end ≡ l.fn.filling.end;
  failed : FailsMore l.m l.fn.filling.failed l.filling.failed (g.B.Bay.state l.fn.bay) (g.B.Bay.state l.bay);
}

abbrev pub decreases-loop-done : goal.decreases-loop-done
decreases-loop-done g l = length l.bytes - l.done
