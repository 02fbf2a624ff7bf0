use Rattle.record_laws.proofs.Modes.{modes_alone, same_disks_may_be_got}
use Rattle.record_laws.proofs.same_disks_may_be_got.Goals as goal

pub returns : goal.returns
returns g c = record { modes = modes_alone; got = same_disks_may_be_got (g.B.Bay.state c.args.bay.now) }
