use Rattle.file_extents.proofs.group_engine.Causes.{calls_keep}
use Rattle.file_extents.proofs.Chains.{given_mounted, given_up, takes_on}
use Rattle.group_contents.proofs.Chains.{write_on}
use Rattle.group_contents.proofs.Steps.{size_set, status_write_next}
use Rattle.group_contents.proofs.resizing.stretch.Goals as goal

pub clear_behind-requires-clause-mounted : goal.clear_behind-requires-clause-mounted
clear_behind-requires-clause-mounted g c = given_mounted c.args.m.now c.set_flight.new.self c.requires.mounted c.set_flight.ensures

pub clear_behind-requires-clause-takes : goal.clear_behind-requires-clause-takes
clear_behind-requires-clause-takes g c = takes_on (given_up c.args.m.now c.set_flight.new.self (g.B.Bay.state c.args.bay.now) c.requires.takes c.set_flight.ensures)

pub set_size-requires-clause-takes : goal.set_size-requires-clause-takes
set_size-requires-clause-takes g c = takes_on c.in-Ok.ensures.keeps

pub returns-in-Ok-clause-keeps : goal.returns-in-Ok-clause-keeps
returns-in-Ok-clause-keeps g c =
    let up = given_up c.args.m.now c.set_flight.new.self (g.B.Bay.state c.args.bay.now) c.requires.takes c.set_flight.ensures in
    calls_keep (calls_keep up c.in-Ok.ensures.keeps) c.set_size.ensures.goes.keeps

pub returns-in-Ok-clause-cause : goal.returns-in-Ok-clause-cause
returns-in-Ok-clause-cause g c =
    let up = given_up c.args.m.now c.set_flight.new.self (g.B.Bay.state c.args.bay.now) c.requires.takes c.set_flight.ensures in
    status_write_next (calls_keep up c.in-Ok.ensures.keeps) c.in-Ok.ensures.mounted c.set_size.new.m (g.B.Bay.state c.set_size.new.bay) c.set_size.result c.set_size.ensures.goes.cause

pub returns-in-Ok-clause-sized : goal.returns-in-Ok-clause-sized
returns-in-Ok-clause-sized g c = size_set c.clear_behind.new.m c.args.growth.now.file.file c.args.growth.now.size c.set_size.new.m c.set_size.result c.set_size.ensures.sized

pub returns-in-Err-clause-keeps : goal.returns-in-Err-clause-keeps
returns-in-Err-clause-keeps g c =
    calls_keep (given_up c.args.m.now c.set_flight.new.self (g.B.Bay.state c.args.bay.now) c.requires.takes c.set_flight.ensures) c.in-Err.ensures.keeps

pub returns-in-Err-clause-cause : goal.returns-in-Err-clause-cause
returns-in-Err-clause-cause g c =
    write_on (given_up c.args.m.now c.set_flight.new.self (g.B.Bay.state c.args.bay.now) c.requires.takes c.set_flight.ensures)
    (given_mounted c.args.m.now c.set_flight.new.self c.requires.mounted c.set_flight.ensures) (g.B.Bay.state c.clear_behind.new.bay) c.clear_behind.new.m c.in-Err.refusal
    c.in-Err.ensures.cause
