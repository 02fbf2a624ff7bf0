use Rattle.record_laws.proofs.Gone.{gone_leaves_nothing}
use Rattle.record_laws.proofs.gone_leaves_nothing.Goals as goal

pub returns : goal.returns
returns g c = gone_leaves_nothing (g.B.Bay.state c.args.start.now) (g.B.Bay.state c.args.end.now) (g.met.B.Bay.sound c.args.start.now)
