use Rattle.std.proofs.Common.{Some}
use Rattle.relocation.proofs.Chains.{flight_lets, flight_mounted, goes_done}
use Rattle.relocation.proofs.steps.advance.Goals as goal

pub returns-in-Some : goal.returns-in-Some
returns-in-Some g c =
    let m = c.set_flight.new.self in
    goes_done (flight_lets c.args.m.now m (Some c.in-Some.flight) c.set_flight.ensures (g.B.Bay.state c.args.bay.now) c.requires.takes)
    (flight_mounted c.args.m.now m (Some c.in-Some.flight) c.set_flight.ensures c.requires.mounted)
