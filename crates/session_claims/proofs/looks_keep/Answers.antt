use Rattle.session_claims.proofs.Looks.{looks_keep}
use Rattle.session_claims.proofs.looks_keep.Goals as goal

pub returns : goal.returns
returns g c = looks_keep g.T.Slots.among (g.B.Bay.state c.args.start.now) (g.B.Bay.state c.args.end.now) (g.met.B.Bay.sound c.args.start.now)
