use Rattle.std.proofs.Common.{◌≡◌, ◌+◌, ◌-◌, ◌≤◌, length}
use Rattle.file_extents.specs.group_engine.Own.{KeepsGroup}
use Rattle.file_extents.specs.group_pieces.Reads.{ReadsGroup}
use Rattle.group_contents.specs.Reading.{KeepsMounted, WhereMounted}
use Rattle.group_contents.proofs.Shown.{ShowsFirst}
use Rattle.group_contents.proofs.reading.read_pieces.Given as goal

abbrev pub invariant-loop-done : goal.invariant-loop-done
invariant-loop-done g l = record {
  in_range : l.done ≤ length l.fn.buf;
  place : l.from ≡ l.at + l.done;
  keeps : KeepsGroup l.m l.m (g.B.Bay.state l.fn.bay) (g.B.Bay.state l.bay);
  reads : ReadsGroup l.m (g.B.Bay.state l.fn.bay) (g.B.Bay.state l.bay);
  mounted : KeepsMounted l.m (g.B.Bay.state l.fn.bay) (g.B.Bay.state l.bay);
  shown : WhereMounted l.m (g.B.Bay.state l.fn.bay) (g.B.Bay.state l.bay) (ShowsFirst l.file l.at l.done l.buf);
}

abbrev pub decreases-loop-done : goal.decreases-loop-done
decreases-loop-done g l = length l.buf - l.done
