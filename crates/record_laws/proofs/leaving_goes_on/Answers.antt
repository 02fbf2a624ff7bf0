use Rattle.record_laws.proofs.Leaving.{leaving_goes_on, leaving_lets_go}
use Rattle.record_laws.proofs.leaving_goes_on.Goals as goal

pub returns : goal.returns
returns g c = record {
  goes = leaving_goes_on (g.B.Bay.state c.args.start.now) (g.B.Bay.state c.args.between.now) (g.B.Bay.state c.args.end.now) (g.met.B.Bay.sound c.args.start.now);
  lets_go = leaving_lets_go (g.B.Bay.state c.args.start.now) (g.B.Bay.state c.args.between.now) (g.B.Bay.state c.args.end.now) (g.met.B.Bay.sound c.args.start.now);
}
