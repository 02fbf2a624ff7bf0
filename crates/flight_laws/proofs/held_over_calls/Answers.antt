use Rattle.flight_laws.proofs.Staying.{flight_over_metadata, flight_over_spare, held_over_metadata, held_over_spare}
use Rattle.flight_laws.proofs.held_over_calls.Goals as goal

pub returns : goal.returns
returns g c = record {
  metadata = held_over_metadata (g.B.Bay.state c.args.start.now) (g.B.Bay.state c.args.end.now);
  spare = held_over_spare (g.B.Bay.state c.args.start.now) (g.B.Bay.state c.args.end.now);
  flight_metadata = flight_over_metadata (g.B.Bay.state c.args.start.now) (g.B.Bay.state c.args.end.now);
  flight_spare = flight_over_spare (g.B.Bay.state c.args.start.now) (g.B.Bay.state c.args.end.now);
}
