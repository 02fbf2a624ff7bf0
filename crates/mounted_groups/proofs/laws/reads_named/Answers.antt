use Rattle.mounted_groups.proofs.ReadNames.{reads_named}
use Rattle.mounted_groups.proofs.laws.reads_named.Goals as goal

pub returns : goal.returns
returns g c = reads_named g.B.Bay.state g.met.B.Bay.sound (g.B.Bay.state c.args.start.now) (g.met.B.Bay.sound c.args.start.now)
