use Rattle.flight_laws.proofs.Elsewhere.{attached_are_in}
use Rattle.flight_laws.proofs.attached_are_in.Goals as goal

pub returns : goal.returns
returns g c = attached_are_in (g.B.Bay.state c.args.bay.now)
