use Rattle.std.proofs.Common.{sym, subst, ℕ}
use Rattle.std.proofs.lemmas.Result.{err_from_is_err_and}
use Rattle.group_pieces.proofs.group_engine.Causes.{calls_keep}
use Rattle.group_pieces.proofs.group_engine.Endings.{goes_on}
use Rattle.file_extents.specs.Filling.{FailsMore}
use Rattle.file_extents.proofs.Chains.{fails_before, fails_none, given_back, kept, shut_cause, status_put, status_puts, takes_on}
use Rattle.file_extents.proofs.filling.put_next.Goals as goal

pub returns-in_err-takes_calls-clause-keeps : goal.returns-in_err-takes_calls-clause-keeps
returns-in_err-takes_calls-clause-keeps g c = kept c.args.m.now (g.B.Bay.state c.args.bay.now) c.requires.takes

pub returns-in_err-takes_calls-clause-cause : goal.returns-in_err-takes_calls-clause-cause
returns-in_err-takes_calls-clause-cause g c =
    let m = c.args.m.now in
    let s = g.B.Bay.state c.args.bay.now in
    let f = err_from_is_err_and c.from_residual.result c.from_residual.ensures.1 in
    rw (f.1, f.2) (status_puts m m c.args.filling.now.failed s s c.in_err-takes_calls.field-0.0 (shut_cause m s c.in_err-takes_calls.field-0.0 c.in_err-takes_calls.ensures.cause))

pub returns-in_err-takes_calls-clause-failed : goal.returns-in_err-takes_calls-clause-failed
returns-in_err-takes_calls-clause-failed g c = fails_none c.args.m.now c.args.filling.now.failed (g.B.Bay.state c.args.bay.now)

pub end_part-requires-clause-takes : goal.end_part-requires-clause-takes
end_part-requires-clause-takes g c = takes_on c.write_part.ensures.keeps

pub give_back-requires : goal.give_back-requires
give_back-requires g c = record { takes = takes_on c.write_part.ensures.keeps }

pub returns-in-Ok-clause-keeps : goal.returns-in-Ok-clause-keeps
returns-in-Ok-clause-keeps g c = calls_keep c.write_part.ensures.keeps c.end_part.ensures.goes.keeps

pub returns-in-Ok-clause-cause : goal.returns-in-Ok-clause-cause
returns-in-Ok-clause-cause g c =
    status_put c.args.m.now c.end_part.new.m c.args.filling.now.failed (g.B.Bay.state c.args.bay.now) (g.B.Bay.state c.end_part.new.bay) c.end_part.result
    (goes_on c.end_part.result c.write_part.ensures.keeps c.in_ok-takes_calls.ensures.ok c.end_part.ensures.goes).cause

pub returns-in-Ok-clause-failed : goal.returns-in-Ok-clause-failed
returns-in-Ok-clause-failed g c =
    let before = c.args.filling.now.failed in
    subst (λ (y : ℕ). FailsMore c.args.m.now before y (g.B.Bay.state c.args.bay.now) (g.B.Bay.state c.end_part.new.bay)) (sym c.end_part.ensures.failed)
    (fails_before c.args.m.now (g.B.Bay.state c.args.bay.now) before c.write_part.new.filling.failed c.end_part.ensures.goes.keeps c.write_part.ensures.failed)

pub returns-in-Err-clause-keeps : goal.returns-in-Err-clause-keeps
returns-in-Err-clause-keeps g c = calls_keep c.write_part.ensures.keeps c.give_back.ensures.keeps

pub returns-in-Err-clause-cause : goal.returns-in-Err-clause-cause
returns-in-Err-clause-cause g c =
    given_back c.args.filling.now.failed c.write_part.new.filling.failed c.in-Err.refusal c.give_back.result c.write_part.ensures.keeps c.in_ok-takes_calls.ensures.ok c.give_back.ensures.keeps
    c.write_part.ensures.failed c.in-Err.ensures.cause c.give_back.ensures.cause

pub returns-in-Err-clause-failed : goal.returns-in-Err-clause-failed
returns-in-Err-clause-failed g c = fails_before c.args.m.now (g.B.Bay.state c.args.bay.now) c.args.filling.now.failed c.write_part.new.filling.failed c.give_back.ensures.keeps c.write_part.ensures.failed
