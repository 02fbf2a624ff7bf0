use Rattle.record_laws.proofs.Leaving.{left_record_may_be_got}
use Rattle.record_laws.proofs.left_record_may_be_got.Goals as goal

pub returns : goal.returns
returns g c = left_record_may_be_got (g.B.Bay.state c.args.bay.now) (g.met.B.Bay.sound c.args.bay.now)
