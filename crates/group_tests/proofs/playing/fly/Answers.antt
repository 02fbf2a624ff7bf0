use Rattle.std.proofs.Common.{Some}
use Rattle.relocation.proofs.Chains.{flight_lets}
use Rattle.group_tests.proofs.Taking.{let_takes}
use Rattle.group_tests.proofs.playing.fly.Goals as goal

pub returns : goal.returns
returns g c = record {
  takes = let_takes (flight_lets c.args.m.now c.set_flight.new.self (Some c.args.flight) c.set_flight.ensures (g.B.Bay.state c.args.bay.now) c.requires.takes);
}
