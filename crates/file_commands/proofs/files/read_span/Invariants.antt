use Rattle.std.proofs.Common.{◌≡◌, ◌+◌, ◌-◌, ◌≤◌}
use Rattle.session.specs.Naming.{CarriesOn}
use Rattle.file_commands.specs.Reading.{PutsRead, ReadsOnly}
use Rattle.file_commands.proofs.files.read_span.Given as goal

abbrev pub invariant-loop-left : goal.invariant-loop-left
invariant-loop-left g l = record {
  few : l.left ≤ l.len;
  carries : CarriesOn l.session l.session (g.B.Bay.state l.fn.bay) (g.B.Bay.state l.bay);
  only : ReadsOnly (g.B.Bay.state l.fn.bay) (g.B.Bay.state l.bay);
  read : PutsRead l.session l.group l.file l.at (l.len - l.left) (g.B.Bay.state l.fn.bay) (g.B.Bay.state l.bay) l.fn.runs l.runs;
  end : l.runs.end ≡ l.at + (l.len - l.left);
}

abbrev pub decreases-loop-left : goal.decreases-loop-left
decreases-loop-left g l = l.left
