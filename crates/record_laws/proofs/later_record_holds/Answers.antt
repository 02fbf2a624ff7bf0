use Rattle.record_laws.proofs.Holding.{disks_keep_no_more, later_record_holds, modes_keep_no_more}
use Rattle.record_laws.proofs.later_record_holds.Goals as goal

pub returns : goal.returns
returns g c = record { holds = later_record_holds; modes = modes_keep_no_more; disks = disks_keep_no_more (g.B.Bay.state c.args.bay.now) }
