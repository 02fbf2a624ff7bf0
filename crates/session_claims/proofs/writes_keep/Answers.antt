use Rattle.session_claims.proofs.Written.{write_tears, writes_keep}
use Rattle.session_claims.proofs.writes_keep.Goals as goal

pub returns : goal.returns
returns g c = record {
  done = writes_keep (g.B.Bay.state c.args.start.now) (g.B.Bay.state c.args.end.now) (g.met.B.Bay.sound c.args.start.now) (g.met.B.Bay.sound c.args.end.now);
  torn = write_tears (g.B.Bay.state c.args.start.now) (g.B.Bay.state c.args.end.now) (g.met.B.Bay.sound c.args.start.now) (g.met.B.Bay.sound c.args.end.now);
}
