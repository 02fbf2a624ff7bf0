use Rattle.std.proofs.Common.{None}
use Rattle.relocation.proofs.Chains.{commits_go, flight_lets, flight_mounted, goes_more, goes_short, lets_takes, nothing_lets}
use Rattle.relocation.proofs.steps.commit_flight.Goals as goal

pub commit_move-requires-clause-mounted : goal.commit_move-requires-clause-mounted
commit_move-requires-clause-mounted g c = flight_mounted c.args.m.now c.set_flight.new.self None c.set_flight.ensures c.requires.mounted

pub commit_move-requires-clause-takes : goal.commit_move-requires-clause-takes
commit_move-requires-clause-takes g c = lets_takes (flight_lets c.args.m.now c.set_flight.new.self None c.set_flight.ensures (g.B.Bay.state c.args.bay.now) c.requires.takes)

pub returns-in-Some : goal.returns-in-Some
returns-in-Some g c =
    let m = c.set_flight.new.self in
    let lets = flight_lets c.args.m.now m None c.set_flight.ensures (g.B.Bay.state c.args.bay.now) c.requires.takes in
    let mounted = flight_mounted c.args.m.now m None c.set_flight.ensures c.requires.mounted in
    goes_more c.commit_move.result lets mounted (commits_go c.commit_move.result (lets.whole mounted) c.commit_move.ensures)

pub returns-in-None : goal.returns-in-None
returns-in-None g c = goes_short (nothing_lets c.args.m.now (g.B.Bay.state c.args.bay.now) c.requires.takes)
