use Rattle.disk_joining.proofs.Adds.{flight_may, joins_on}
use Rattle.disk_joining.proofs.Takings.{flight_is_taken, flight_mounted, takes_then}
use Rattle.disk_joining.proofs.adding.join.Goals as goal

pub join_all-requires-clause-mounted : goal.join_all-requires-clause-mounted
join_all-requires-clause-mounted g c = flight_mounted c.args.m.now c.set_flight.new.self c.set_flight.ensures c.requires.mounted

pub join_all-requires-clause-takes : goal.join_all-requires-clause-takes
join_all-requires-clause-takes g c =
    takes_then (flight_is_taken c.args.held.now c.args.m.now c.set_flight.new.self (g.B.Bay.state c.args.bay.now) c.set_flight.ensures c.requires.takes c.requires.apart)

pub join_all-requires-clause-apart : goal.join_all-requires-clause-apart
join_all-requires-clause-apart g c =
    (flight_is_taken c.args.held.now c.args.m.now c.set_flight.new.self (g.B.Bay.state c.args.bay.now) c.set_flight.ensures c.requires.takes c.requires.apart).own

pub join_all-requires-clause-may : goal.join_all-requires-clause-may
join_all-requires-clause-may g c = flight_may c.args.held.now c.args.m.now c.set_flight.new.self c.args.joining.now (g.B.Bay.state c.args.bay.now) c.set_flight.ensures c.requires.may

pub returns-clause-joins : goal.returns-clause-joins
returns-clause-joins g c =
    joins_on c.args.held.now c.join_all.result (flight_is_taken c.args.held.now c.args.m.now c.set_flight.new.self (g.B.Bay.state c.args.bay.now) c.set_flight.ensures c.requires.takes c.requires.apart)
    (flight_mounted c.args.m.now c.set_flight.new.self c.set_flight.ensures c.requires.mounted) c.join_all.ensures.joins
