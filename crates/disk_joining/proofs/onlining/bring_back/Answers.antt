use Rattle.std.proofs.Common.{◌∙◌}
use Rattle.disk_joining.proofs.Onlines.{record_causes, recorded}
use Rattle.disk_joining.proofs.Takings.{flight_is_taken, flight_mounted, taken_on, takes_then}
use Rattle.disk_joining.proofs.onlining.bring_back.Goals as goal

pub attach_missing-requires-clause-takes : goal.attach_missing-requires-clause-takes
attach_missing-requires-clause-takes g c =
    takes_then (flight_is_taken c.args.held.now c.args.m.now c.set_flight.new.self (g.B.Bay.state c.args.bay.now) c.set_flight.ensures c.requires.takes c.requires.apart)

pub attach_missing-requires-clause-apart : goal.attach_missing-requires-clause-apart
attach_missing-requires-clause-apart g c =
    (flight_is_taken c.args.held.now c.args.m.now c.set_flight.new.self (g.B.Bay.state c.args.bay.now) c.set_flight.ensures c.requires.takes c.requires.apart).own

pub returns-clause-taken : goal.returns-clause-taken
returns-clause-taken g c =
    let flight = flight_is_taken c.args.held.now c.args.m.now c.set_flight.new.self (g.B.Bay.state c.args.bay.now) c.set_flight.ensures c.requires.takes c.requires.apart in
    recorded c.args.held.now (taken_on c.args.held.now flight c.attach_missing.ensures.taken) c.write_next.ensures.goes

pub returns-clause-cause : goal.returns-clause-cause
returns-clause-cause g c =
    let flight = flight_is_taken c.args.held.now c.args.m.now c.set_flight.new.self (g.B.Bay.state c.args.bay.now) c.set_flight.ensures c.requires.takes c.requires.apart in
    let mounted = c.attach_missing.ensures.same ∙ flight_mounted c.args.m.now c.set_flight.new.self c.set_flight.ensures c.requires.mounted in
    record_causes c.args.held.now c.write_next.result (taken_on c.args.held.now flight c.attach_missing.ensures.taken) mounted c.write_next.ensures.goes
