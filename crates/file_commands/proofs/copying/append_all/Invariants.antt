use Rattle.std.proofs.Common.{◌≤◌}
use Rattle.session.specs.Naming.{CarriesOn}
use Rattle.file_commands.specs.HostCauses.{NoneFalls}
use Rattle.file_commands.proofs.copying.append_all.Given as goal

abbrev pub invariant-loop-left : goal.invariant-loop-left
invariant-loop-left g l = record {
  few : l.left ≤ l.size;
  carries : CarriesOn l.session l.session (g.B.Bay.state l.fn.bay) (g.B.Bay.state l.bay);
  counts : NoneFalls (g.H.Host.faults l.fn.host) (g.H.Host.faults l.host);
}

abbrev pub decreases-loop-left : goal.decreases-loop-left
decreases-loop-left g l = l.left
