use Rattle.session_claims.proofs.Created.{creations_keep}
use Rattle.session_claims.proofs.creations_keep.Goals as goal

pub returns : goal.returns
returns g c = creations_keep (g.B.Bay.state c.args.start.now) (g.B.Bay.state c.args.end.now) (g.met.B.Bay.sound c.args.start.now)
