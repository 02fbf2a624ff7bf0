use Rattle.edit_laws.proofs.WithAll.{stands_with_all}
use Rattle.edit_laws.proofs.edits_stand_with_all_disks.Goals as goal

pub returns : goal.returns
returns g c = record { stands = stands_with_all (g.B.Bay.state c.args.start.now) (g.B.Bay.state c.args.end.now) }
