use Rattle.mounted_groups.proofs.Unmounted.{nothing_is_mounted}
use Rattle.mounted_groups.proofs.laws.nothing_is_mounted.Goals as goal

pub returns : goal.returns
returns g c = nothing_is_mounted g.B.Bay.state (g.B.Bay.state c.args.start.now) (g.B.Bay.state c.args.end.now)
