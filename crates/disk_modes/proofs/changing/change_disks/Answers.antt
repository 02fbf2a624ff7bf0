use Rattle.record_laws.proofs.group_engine.Endings.{goes_on}
use Rattle.disk_modes.proofs.Effects.{made_behind}
use Rattle.disk_modes.proofs.Getting.{may_behind}
use Rattle.disk_modes.proofs.Held.{held_behind}
use Rattle.disk_modes.proofs.Steps.{given_mounted, given_up, takes_on}
use Rattle.disk_modes.proofs.changing.change_disks.Goals as goal

pub make_changes-requires-clause-mounted : goal.make_changes-requires-clause-mounted
make_changes-requires-clause-mounted g c = given_mounted c.args.m.now c.set_flight.new.self c.requires.mounted c.set_flight.ensures

pub make_changes-requires-clause-takes : goal.make_changes-requires-clause-takes
make_changes-requires-clause-takes g c = takes_on (given_up c.args.m.now c.set_flight.new.self (g.B.Bay.state c.args.bay.now) c.requires.takes c.set_flight.ensures)

pub returns-clause-goes : goal.returns-clause-goes
returns-clause-goes g c =
    goes_on c.make_changes.result (given_up c.args.m.now c.set_flight.new.self (g.B.Bay.state c.args.bay.now) c.requires.takes c.set_flight.ensures)
    (given_mounted c.args.m.now c.set_flight.new.self c.requires.mounted c.set_flight.ensures) c.make_changes.ensures.goes

pub returns-clause-done : goal.returns-clause-done
returns-clause-done g c =
    made_behind c.args.changes.now c.args.new.now c.args.m.now c.set_flight.new.self c.make_changes.new.m c.make_changes.result c.set_flight.ensures c.make_changes.ensures.done

pub returns-clause-held : goal.returns-clause-held
returns-clause-held g c = λ may.
    let m = c.args.m.now in
    let new = c.set_flight.new.self in
    held_behind m c.make_changes.new.m (g.B.Bay.state c.args.bay.now) (g.B.Bay.state c.make_changes.new.bay) c.requires.mounted c.requires.takes new c.set_flight.ensures
    (c.make_changes.ensures.held (may_behind c.args.changes.now c.args.new.now m new c.set_flight.ensures may))
