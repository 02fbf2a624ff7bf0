use Rattle.file_commands.specs.Copying.{HasBytes}
use Rattle.session.specs.Naming.{CarriesOn}
use Rattle.file_commands.specs.HostCauses.{NoneFalls}
use Rattle.file_commands.proofs.copying.put_all.Given as goal

abbrev pub invariant-loop : goal.invariant-loop
invariant-loop g l = record {
  carries : CarriesOn l.fn.session l.session (g.B.Bay.state l.fn.bay) (g.B.Bay.state l.bay);
  inside : HasBytes (g.H.Host.file l.host) l.source l.filling.end;
  counts : NoneFalls (g.H.Host.faults l.fn.host) (g.H.Host.faults l.host);
}
