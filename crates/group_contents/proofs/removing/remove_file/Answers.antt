use Rattle.std.proofs.Common.{inl, inr}
use Rattle.std.specs.Prelude.{◌⊎◌}
use Rattle.std.proofs.lemmas.Result.{err_from_is_err_and}
use Rattle.refusal_lines.specs.declared.refusal.Refusal.{Refusal}
use Rattle.file_extents.specs.group_engine.Commits.{StatusCause}
use Rattle.file_extents.proofs.Chains.{kept, shut_cause}
use Rattle.group_contents.specs.Files.{OpenCause}
use Rattle.group_contents.proofs.Steps.{is_removed, on_err}
use Rattle.group_contents.proofs.removing.remove_file.Goals as goal

pub returns-in_err-takes_calls-clause-keeps : goal.returns-in_err-takes_calls-clause-keeps
returns-in_err-takes_calls-clause-keeps g c = kept c.args.m.now (g.B.Bay.state c.args.bay.now) c.requires.takes

pub returns-in_err-takes_calls-clause-cause : goal.returns-in_err-takes_calls-clause-cause
returns-in_err-takes_calls-clause-cause g c =
    let f = err_from_is_err_and c.from_residual.result c.from_residual.ensures.1 in
    rw (f.1, f.2) (inr (shut_cause c.args.m.now (g.B.Bay.state c.args.bay.now) c.in_err-takes_calls.field-0.0 c.in_err-takes_calls.ensures.cause))

pub returns-in-Ok-clause-cause : goal.returns-in-Ok-clause-cause
returns-in-Ok-clause-cause g c =
    let s = g.B.Bay.state c.args.bay.now in
    let t = g.B.Bay.state c.remove_number.new.bay in
    on_err (StatusCause c.args.m.now c.remove_number.new.m s t)
    (λ (refusal : Refusal). OpenCause c.args.m.now c.args.path.now.parts refusal ⊎ StatusCause c.args.m.now c.remove_number.new.m s t refusal)
    c.remove_number.result (λ refusal why. inr why) c.remove_number.ensures.cause

pub returns-in-Ok-clause-removed : goal.returns-in-Ok-clause-removed
returns-in-Ok-clause-removed g c =
    is_removed c.args.m.now c.args.path.now.parts c.in-Ok.file c.remove_number.result c.remove_number.new.m c.in-Ok.ensures.opened c.remove_number.ensures.removed
    c.remove_number.ensures.ended

pub returns-in-Err-clause-keeps : goal.returns-in-Err-clause-keeps
returns-in-Err-clause-keeps g c = kept c.args.m.now (g.B.Bay.state c.args.bay.now) c.requires.takes

pub returns-in-Err-clause-cause : goal.returns-in-Err-clause-cause
returns-in-Err-clause-cause g c = inl c.in-Err.ensures.cause
