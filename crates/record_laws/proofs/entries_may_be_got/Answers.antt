use Rattle.record_laws.proofs.Entries.{entries_may_be_got}
use Rattle.record_laws.proofs.entries_may_be_got.Goals as goal

pub returns : goal.returns
returns g c = entries_may_be_got (g.B.Bay.state c.args.bay.now) (g.met.B.Bay.sound c.args.bay.now)
