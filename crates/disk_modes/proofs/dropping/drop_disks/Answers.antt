use Rattle.std.proofs.Common.{inl, inr}
use Rattle.std.specs.Prelude.{◌⊎◌}
use Rattle.std.proofs.lemmas.Result.{err_from_is_err_and}
use Rattle.refusal_lines.specs.declared.refusal.Refusal.{Refusal}
use Rattle.record_laws.specs.group_engine.Commits.{StatusCause}
use Rattle.disk_modes.specs.Causes.{DropRefused}
use Rattle.disk_modes.proofs.Drops.{drops_done}
use Rattle.disk_modes.proofs.Held.{held_here}
use Rattle.disk_modes.proofs.Steps.{kept, on_err, shut_cause}
use Rattle.disk_modes.proofs.dropping.drop_disks.Goals as goal

pub returns-in_err-takes_calls-clause-keeps : goal.returns-in_err-takes_calls-clause-keeps
returns-in_err-takes_calls-clause-keeps g c = kept c.args.m.now (g.B.Bay.state c.args.bay.now) c.requires.takes

pub returns-in_err-takes_calls-clause-cause : goal.returns-in_err-takes_calls-clause-cause
returns-in_err-takes_calls-clause-cause g c =
    let f = err_from_is_err_and c.from_residual.result c.from_residual.ensures.1 in
    rw (f.1, f.2) (inr (shut_cause c.args.m.now (g.B.Bay.state c.args.bay.now) c.in_err-takes_calls.field-0.0 c.in_err-takes_calls.ensures.cause))

pub returns-in-Ok-clause-cause : goal.returns-in-Ok-clause-cause
returns-in-Ok-clause-cause g c =
    let s = g.B.Bay.state c.args.bay.now in
    let t = g.B.Bay.state c.drop_named.new.bay in
    on_err (StatusCause c.args.m.now c.drop_named.new.m s t) (λ (refusal : Refusal). DropRefused c.args.m.now c.args.disks.now refusal ⊎ StatusCause c.args.m.now c.drop_named.new.m s t refusal) c.drop_named.result (λ refusal why. inr why) c.drop_named.ensures.goes.cause

pub returns-in-Err-clause-keeps : goal.returns-in-Err-clause-keeps
returns-in-Err-clause-keeps g c = kept c.args.m.now (g.B.Bay.state c.args.bay.now) c.requires.takes

pub returns-in-Err-clause-cause : goal.returns-in-Err-clause-cause
returns-in-Err-clause-cause g c = inl (c.named_by-named.result.dropping, c.named_by-named.result.forced, c.named_by-named.ensures, c.in-Err.ensures.cause)

pub check_drop-requires : goal.check_drop-requires
check_drop-requires g c = (c.requires.takes c.in_ok-takes_calls.ensures.ok).0

pub returns-in-Ok-clause-done : goal.returns-in-Ok-clause-done
returns-in-Ok-clause-done g c =
    let named = c.named_by-named.result in
    drops_done c.args.disks.now named.dropping named.forced c.args.power c.args.m.now c.drop_named.new.m c.drop_named.result c.named_by-named.ensures
    (c.requires.takes c.in_ok-takes_calls.ensures.ok).0.status c.drop_named.ensures.done

pub returns-in_err-takes_calls-clause-held : goal.returns-in_err-takes_calls-clause-held
returns-in_err-takes_calls-clause-held g c = λ turns. held_here c.args.m.now (g.B.Bay.state c.args.bay.now)

pub returns-in-Err-clause-held : goal.returns-in-Err-clause-held
returns-in-Err-clause-held g c = λ turns. held_here c.args.m.now (g.B.Bay.state c.args.bay.now)

pub returns-in-Ok-clause-held : goal.returns-in-Ok-clause-held
returns-in-Ok-clause-held g c = λ turns. c.drop_named.ensures.held (c.in-Ok.ensures.may c.named_by-named.ensures) turns
