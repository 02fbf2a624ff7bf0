use Rattle.flight_laws.proofs.Flying.{beginning_agrees, copying_goes_on, flight_clears_on, flight_leads_on}
use Rattle.flight_laws.proofs.copying_goes_on.Goals as goal

pub returns : goal.returns
returns g c = record {
  begins = beginning_agrees (g.B.Bay.state c.args.start.now);
  goes_on = copying_goes_on (g.B.Bay.state c.args.start.now) (g.B.Bay.state c.args.end.now) (g.met.B.Bay.sound c.args.end.now);
  leads = flight_leads_on (g.B.Bay.state c.args.start.now);
  clears = flight_clears_on (g.B.Bay.state c.args.start.now);
}
