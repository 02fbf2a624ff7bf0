use Rattle.flight_laws.proofs.Staying.{led_describe, mounted_describe}
use Rattle.flight_laws.proofs.tables_describe_some.Goals as goal

pub returns : goal.returns
returns g c = record { mounted = mounted_describe (g.B.Bay.state c.args.bay.now); led = led_describe (g.B.Bay.state c.args.bay.now) }
