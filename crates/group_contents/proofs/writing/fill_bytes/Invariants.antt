use Rattle.std.proofs.Common.{◌≡◌, ℕ, ◌+◌, ◌-◌, ◌≤◌, Ok, length, replicate}
use Rattle.file_extents.specs.group_engine.Mounts.{IsMounted}
use Rattle.file_extents.specs.group_engine.Own.{KeepsGroup}
use Rattle.file_extents.specs.Filling.{FailsMore}
use Rattle.group_contents.specs.Writing.{IsLayoutOf, WritesSpan}
use Rattle.group_contents.proofs.writing.fill_bytes.Given as goal

abbrev pub invariant-loop-left : goal.invariant-loop-left
invariant-loop-left g l = record {
  mounted : IsMounted l.m;
  keeps : KeepsGroup l.fn.m l.m (g.B.Bay.state l.fn.bay) (g.B.Bay.state l.bay);
  failed : FailsMore l.fn.m 0 l.failed (g.B.Bay.state l.fn.bay) (g.B.Bay.state l.bay);
  in_range : l.left ≤ l.len;
  place : l.from ≡ l.at + (l.len - l.left);
  held : (byte : ℕ) → l.buf ≡ replicate (length l.buf) byte → IsLayoutOf l.writing.layout l.writing.file l.fn.m.catalog.shape
      → WritesSpan l.fn.m l.writing.file l.at (replicate (l.len - l.left) byte) (Ok tt) l.m (g.B.Bay.state l.fn.bay) (g.B.Bay.state l.bay);
}

abbrev pub decreases-loop-left : goal.decreases-loop-left
decreases-loop-left g l = l.left
