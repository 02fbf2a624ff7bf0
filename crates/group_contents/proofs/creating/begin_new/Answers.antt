use Rattle.std.proofs.Common.{ℕ, inl, inr, subst, sym, ◌∙◌}
use Rattle.std.proofs.lemmas.Result.{err_from_is_err_and}
use Rattle.file_extents.specs.Filling.{end_by}
use Rattle.file_extents.proofs.Chains.{kept, shut_cause}
use Rattle.group_contents.proofs.Steps.{begun_refused}
use Rattle.group_contents.proofs.creating.begin_new.Goals as goal

pub returns-in_err-takes_calls-clause-keeps : goal.returns-in_err-takes_calls-clause-keeps
returns-in_err-takes_calls-clause-keeps g c = kept c.args.m.now (g.B.Bay.state c.args.bay.now) c.requires.takes

pub returns-in_err-takes_calls-clause-cause : goal.returns-in_err-takes_calls-clause-cause
returns-in_err-takes_calls-clause-cause g c =
    let f = err_from_is_err_and c.from_residual.result c.from_residual.ensures.1 in
    rw (f.1, f.2) (inr (inr (shut_cause c.args.m.now (g.B.Bay.state c.args.bay.now) c.in_err-takes_calls.field-0.0 c.in_err-takes_calls.ensures.cause)))

pub returns-in_err-filling-clause-keeps : goal.returns-in_err-filling-clause-keeps
returns-in_err-filling-clause-keeps g c = kept c.args.m.now (g.B.Bay.state c.args.bay.now) c.requires.takes

pub returns-in_err-filling-clause-cause : goal.returns-in_err-filling-clause-cause
returns-in_err-filling-clause-cause g c =
    let f = err_from_is_err_and c.from_residual-in_err-filling.result c.from_residual-in_err-filling.ensures.1 in
    rw (f.1, f.2) (inl c.in_err-filling.ensures.cause)

pub returns-in-Ok-clause-keeps : goal.returns-in-Ok-clause-keeps
returns-in-Ok-clause-keeps g c = c.in-Ok.ensures.keeps

pub returns-in-Ok-clause-mounted : goal.returns-in-Ok-clause-mounted
returns-in-Ok-clause-mounted g c = c.in-Ok.ensures.mounted

pub returns-in-Ok-clause-end : goal.returns-in-Ok-clause-end
returns-in-Ok-clause-end g c = subst (λ (k : ℕ). end_by c.args.contents c.args.new.now.size k) (sym c.in-Ok.ensures.end) c.in_ok-filling.ensures.end

pub returns-in-Ok-clause-failed : goal.returns-in-Ok-clause-failed
returns-in-Ok-clause-failed g c = c.in-Ok.ensures.failed ∙ c.in_ok-filling.ensures.failed

pub returns-in-Err-clause-keeps : goal.returns-in-Err-clause-keeps
returns-in-Err-clause-keeps g c = c.in-Err.ensures.keeps

pub returns-in-Err-clause-cause : goal.returns-in-Err-clause-cause
returns-in-Err-clause-cause g c =
    begun_refused c.args.m.now c.args.new.now c.in_ok-filling.filling.extents c.begin_prepared.new.m (g.B.Bay.state c.args.bay.now) (g.B.Bay.state c.begin_prepared.new.bay) c.in-Err.refusal
    c.in_ok-filling.ensures.extents c.in-Err.ensures.cause
