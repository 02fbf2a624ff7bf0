use Rattle.group_engine.proofs.Causes.{gives_up}
use Rattle.group_engine.proofs.frames.giving_up_keeps.Goals as goal

pub returns : goal.returns
returns g c = λ m takes. gives_up m (g.B.Bay.state c.args.bay.now) takes
