use Rattle.record_laws.proofs.Modes.{modes_may_be_got}
use Rattle.record_laws.proofs.modes_may_be_got.Goals as goal

pub returns : goal.returns
returns g c = modes_may_be_got (g.B.Bay.state c.args.bay.now)
