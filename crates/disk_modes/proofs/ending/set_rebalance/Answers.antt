use Rattle.std.proofs.lemmas.Result.{err_from_is_err_and}
use Rattle.disk_modes.proofs.Held.{rebalance_short}
use Rattle.disk_modes.proofs.Steps.{kept, shut_cause}
use Rattle.disk_modes.proofs.ending.set_rebalance.Goals as goal

pub returns-in_err-takes_calls-clause-keeps : goal.returns-in_err-takes_calls-clause-keeps
returns-in_err-takes_calls-clause-keeps g c = kept c.args.m.now (g.B.Bay.state c.args.bay.now) c.requires.takes

pub returns-in_err-takes_calls-clause-cause : goal.returns-in_err-takes_calls-clause-cause
returns-in_err-takes_calls-clause-cause g c =
    let f = err_from_is_err_and c.from_residual.result c.from_residual.ensures.1 in
    rw (f.1, f.2) (shut_cause c.args.m.now (g.B.Bay.state c.args.bay.now) c.in_err-takes_calls.field-0.0 c.in_err-takes_calls.ensures.cause)

pub returns-in_err-takes_calls-clause-commits : goal.returns-in_err-takes_calls-clause-commits
returns-in_err-takes_calls-clause-commits g c =
    let f = err_from_is_err_and c.from_residual.result c.from_residual.ensures.1 in
    rw f.1 (rebalance_short c.args.m.now (g.B.Bay.state c.args.bay.now) f.0)
