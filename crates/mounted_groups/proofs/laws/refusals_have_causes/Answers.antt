use Rattle.mounted_groups.proofs.MountRefusals.{refusals_have_causes}
use Rattle.mounted_groups.proofs.laws.refusals_have_causes.Goals as goal

pub returns : goal.returns
returns g c = refusals_have_causes g.B.Bay.state g.met.B.Bay.sound (g.B.Bay.state c.args.start.now) (g.B.Bay.state c.args.end.now) (g.met.B.Bay.sound c.args.end.now)
