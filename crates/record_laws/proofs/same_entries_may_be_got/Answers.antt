use Rattle.record_laws.proofs.Modes.{mounted_has_partners, same_entries_may_be_got}
use Rattle.record_laws.proofs.same_entries_may_be_got.Goals as goal

pub returns : goal.returns
returns g c = record { partners = mounted_has_partners (g.B.Bay.state c.args.bay.now); got = same_entries_may_be_got (g.B.Bay.state c.args.bay.now) }
