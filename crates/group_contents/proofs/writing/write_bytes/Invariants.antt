use Rattle.std.proofs.Common.{◌≡◌, ◌+◌, ◌-◌, ◌<◌, ◌≤◌, ◌^◌, Ok, length, take}
use Rattle.file_extents.specs.group_engine.Mounts.{IsMounted}
use Rattle.file_extents.specs.group_engine.Own.{KeepsGroup}
use Rattle.file_extents.specs.Filling.{FailsMore}
use Rattle.group_contents.specs.Writing.{IsLayoutOf, WritesSpan}
use Rattle.group_contents.proofs.writing.write_bytes.Given as goal

abbrev pub invariant-loop-done : goal.invariant-loop-done
invariant-loop-done g l = record {
  in_range : l.done ≤ length l.bytes;
  place : l.from ≡ l.at + l.done;
  end : l.from < 2 ^ 64;
  mounted : IsMounted l.m;
  keeps : KeepsGroup l.fn.m l.m (g.B.Bay.state l.fn.bay) (g.B.Bay.state l.bay);
  failed : FailsMore l.fn.m l.fn.failed l.failed (g.B.Bay.state l.fn.bay) (g.B.Bay.state l.bay);
  held : IsLayoutOf l.writing.layout l.writing.file l.fn.m.catalog.shape
      → WritesSpan l.fn.m l.writing.file l.at (take l.done l.bytes) (Ok tt) l.m (g.B.Bay.state l.fn.bay) (g.B.Bay.state l.bay);
}

abbrev pub decreases-loop-done : goal.decreases-loop-done
decreases-loop-done g l = length l.bytes - l.done
