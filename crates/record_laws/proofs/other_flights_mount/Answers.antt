use Rattle.record_laws.proofs.Attaching.{other_flights_mount}
use Rattle.record_laws.proofs.other_flights_mount.Goals as goal

pub returns : goal.returns
returns g c = other_flights_mount (g.B.Bay.state c.args.bay.now)
