use Rattle.record_laws.proofs.group_engine.Endings.{goes_on}
use Rattle.disk_modes.proofs.Held.{held_behind}
use Rattle.disk_modes.proofs.Resized.{resized_behind}
use Rattle.disk_modes.proofs.Sized.{same_fit}
use Rattle.disk_modes.proofs.Steps.{given_mounted, given_up, takes_on}
use Rattle.disk_modes.proofs.resizing.resize.Goals as goal

pub rebalance_first-requires-clause-mounted : goal.rebalance_first-requires-clause-mounted
rebalance_first-requires-clause-mounted g c = given_mounted c.args.m.now c.set_flight.new.self c.requires.mounted c.set_flight.ensures

pub rebalance_first-requires-clause-takes : goal.rebalance_first-requires-clause-takes
rebalance_first-requires-clause-takes g c = takes_on (given_up c.args.m.now c.set_flight.new.self (g.B.Bay.state c.args.bay.now) c.requires.takes c.set_flight.ensures)

pub returns-clause-goes : goal.returns-clause-goes
returns-clause-goes g c =
    goes_on c.rebalance_first.result (given_up c.args.m.now c.set_flight.new.self (g.B.Bay.state c.args.bay.now) c.requires.takes c.set_flight.ensures)
    (given_mounted c.args.m.now c.set_flight.new.self c.requires.mounted c.set_flight.ensures) c.rebalance_first.ensures.goes

pub returns-clause-done : goal.returns-clause-done
returns-clause-done g c =
    resized_behind c.args.asked.now.disks c.args.asked.now.size c.args.power c.args.m.now c.set_flight.new.self c.rebalance_first.new.m c.rebalance_first.result c.set_flight.ensures c.rebalance_first.ensures.done

pub returns-clause-held : goal.returns-clause-held
returns-clause-held g c = λ fit.
    let m = c.args.m.now in
    let new = c.set_flight.new.self in
    held_behind m c.rebalance_first.new.m (g.B.Bay.state c.args.bay.now) (g.B.Bay.state c.rebalance_first.new.bay) c.requires.mounted c.requires.takes new c.set_flight.ensures
    (c.rebalance_first.ensures.held (same_fit c.args.asked.now m new (given_up m new (g.B.Bay.state c.args.bay.now) c.requires.takes c.set_flight.ensures).same fit))
