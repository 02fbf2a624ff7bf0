use Rattle.flight_laws.proofs.Following.{following_agrees}
use Rattle.flight_laws.proofs.following_agrees.Goals as goal

pub returns : goal.returns
returns g c = following_agrees (g.B.Bay.state c.args.start.now) (g.B.Bay.state c.args.end.now) (g.met.B.Bay.sound c.args.end.now)
