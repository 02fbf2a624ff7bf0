use Rattle.file_extents.proofs.group_engine.Causes.{calls_keep, cause_on}
use Rattle.file_extents.proofs.Chains.{given_mounted, given_up, takes_on}
use Rattle.group_contents.proofs.Steps.{size_cut, status_next}
use Rattle.group_contents.proofs.resizing.shrink.Goals as goal

pub set_size-requires-clause-mounted : goal.set_size-requires-clause-mounted
set_size-requires-clause-mounted g c = given_mounted c.args.m.now c.set_flight.new.self c.requires.mounted c.set_flight.ensures

pub set_size-requires-clause-takes : goal.set_size-requires-clause-takes
set_size-requires-clause-takes g c = takes_on (given_up c.args.m.now c.set_flight.new.self (g.B.Bay.state c.args.bay.now) c.requires.takes c.set_flight.ensures)

pub end_pending-requires-clause-whole : goal.end_pending-requires-clause-whole
end_pending-requires-clause-whole g c = c.in-Ok.ensures.goes.keeps.whole

pub end_pending-requires-clause-ready : goal.end_pending-requires-clause-ready
end_pending-requires-clause-ready g c = c.in-Ok.ensures.goes.keeps.ready

pub returns-in-Ok-clause-keeps : goal.returns-in-Ok-clause-keeps
returns-in-Ok-clause-keeps g c =
    let up = given_up c.args.m.now c.set_flight.new.self (g.B.Bay.state c.args.bay.now) c.requires.takes c.set_flight.ensures in
    calls_keep (calls_keep up c.in-Ok.ensures.goes.keeps) c.end_pending.ensures.keeps

pub returns-in-Ok-clause-cause : goal.returns-in-Ok-clause-cause
returns-in-Ok-clause-cause g c =
    let up = given_up c.args.m.now c.set_flight.new.self (g.B.Bay.state c.args.bay.now) c.requires.takes c.set_flight.ensures in
    status_next (calls_keep up c.in-Ok.ensures.goes.keeps) c.in-Ok.ensures.goes.mounted c.end_pending.new.self (g.B.Bay.state c.end_pending.new.bay) c.end_pending.result c.end_pending.ensures.cause

pub returns-in-Ok-clause-sized : goal.returns-in-Ok-clause-sized
returns-in-Ok-clause-sized g c =
    size_cut c.args.m.now c.set_flight.new.self c.args.file c.args.size c.set_size.new.m c.end_pending.result c.set_flight.ensures c.in-Ok.ensures.sized

pub returns-in-Err-clause-keeps : goal.returns-in-Err-clause-keeps
returns-in-Err-clause-keeps g c =
    calls_keep (given_up c.args.m.now c.set_flight.new.self (g.B.Bay.state c.args.bay.now) c.requires.takes c.set_flight.ensures) c.in-Err.ensures.goes.keeps

pub returns-in-Err-clause-cause : goal.returns-in-Err-clause-cause
returns-in-Err-clause-cause g c =
    cause_on (given_up c.args.m.now c.set_flight.new.self (g.B.Bay.state c.args.bay.now) c.requires.takes c.set_flight.ensures) (g.B.Bay.state c.set_size.new.bay) c.set_size.new.m
    (given_mounted c.args.m.now c.set_flight.new.self c.requires.mounted c.set_flight.ensures) c.in-Err.refusal c.in-Err.ensures.goes.cause
