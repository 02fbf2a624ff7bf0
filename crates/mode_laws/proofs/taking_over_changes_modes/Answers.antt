use Rattle.mode_laws.proofs.Others.{taking_over_changes}
use Rattle.mode_laws.proofs.taking_over_changes_modes.Goals as goal

pub returns : goal.returns
returns g c = taking_over_changes (g.B.Bay.state c.args.start.now) (g.B.Bay.state c.args.end.now)
