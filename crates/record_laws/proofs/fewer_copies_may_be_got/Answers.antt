use Rattle.record_laws.proofs.Fewer.{fewer_copies_may_be_got}
use Rattle.record_laws.proofs.fewer_copies_may_be_got.Goals as goal

pub returns : goal.returns
returns g c = fewer_copies_may_be_got (g.B.Bay.state c.args.bay.now)
