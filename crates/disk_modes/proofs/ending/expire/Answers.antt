use Rattle.std.proofs.lemmas.Result.{err_from_is_err_and}
use Rattle.disk_modes.proofs.Expiring.{expiring_of}
use Rattle.disk_modes.proofs.Held.{held_here}
use Rattle.disk_modes.proofs.Steps.{kept, shut_cause}
use Rattle.disk_modes.proofs.ending.expire.Goals as goal

pub returns-in_err-takes_calls-clause-keeps : goal.returns-in_err-takes_calls-clause-keeps
returns-in_err-takes_calls-clause-keeps g c = kept c.args.m.now (g.B.Bay.state c.args.bay.now) c.requires.takes

pub returns-in_err-takes_calls-clause-cause : goal.returns-in_err-takes_calls-clause-cause
returns-in_err-takes_calls-clause-cause g c =
    let f = err_from_is_err_and c.from_residual.result c.from_residual.ensures.1 in
    rw (f.1, f.2) (shut_cause c.args.m.now (g.B.Bay.state c.args.bay.now) c.in_err-takes_calls.field-0.0 c.in_err-takes_calls.ensures.cause)

pub returns-in-None-clause-keeps : goal.returns-in-None-clause-keeps
returns-in-None-clause-keeps g c = kept c.args.m.now (g.B.Bay.state c.args.bay.now) c.requires.takes

pub returns-in_err-takes_calls-clause-held : goal.returns-in_err-takes_calls-clause-held
returns-in_err-takes_calls-clause-held g c = λ turns. held_here c.args.m.now (g.B.Bay.state c.args.bay.now)

pub returns-in-None-clause-held : goal.returns-in-None-clause-held
returns-in-None-clause-held g c = λ turns. held_here c.args.m.now (g.B.Bay.state c.args.bay.now)

pub returns-in-Ok-clause-held : goal.returns-in-Ok-clause-held
returns-in-Ok-clause-held g c = λ turns.
    c.in-Ok.ensures.held (expiring_of c.args.m.now c.catalog.result.now c.status.result.now c.args.now c.in-Some.disk c.catalog.ensures c.status.ensures c.in-Some.ensures) turns

pub returns-in-Err-clause-held : goal.returns-in-Err-clause-held
returns-in-Err-clause-held g c = λ turns.
    c.in-Err.ensures.held (expiring_of c.args.m.now c.catalog.result.now c.status.result.now c.args.now c.in-Some.disk c.catalog.ensures c.status.ensures c.in-Some.ensures) turns
