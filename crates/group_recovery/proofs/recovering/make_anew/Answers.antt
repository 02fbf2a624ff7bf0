use Rattle.std.proofs.Common.{◌∙◌, List, Some, ap}
use Rattle.std.proofs.lemmas.Result.{err_from_is_err_and}
use Rattle.status_register.specs.Surveys.{missing}
use Rattle.status_register.specs.declared.member.Member.{Member}
use Rattle.group_recovery.specs.Recovering.{own_members}
use Rattle.group_recovery.proofs.Recovered.{short_cause}
use Rattle.group_recovery.proofs.recovering.make_anew.Goals as goal

pub returns-in_err-check_attached-clause-cause : goal.returns-in_err-check_attached-clause-cause
returns-in_err-check_attached-clause-cause c =
    let q = c.args.quorate.now in
    let next = c.in_ok-next.next in
    let p = err_from_is_err_and c.from_residual-in_err-check_attached.result c.from_residual-in_err-check_attached.ensures.1 in
    rw (p.1, p.2) (short_cause q next (missing c.deref-3.result.now (Some next)) c.in_err-check_attached.field-0.0 (c.requires.renews next c.in_ok-next.ensures.next)
    (ap (λ (l : List Member). missing l (Some next)) (c.deref-3.ensures.value ∙ c.in_ok-members.ensures ∙ (λ i. own_members q.id (c.entries.ensures.entries i) (c.deref-2.ensures.value i))))
    c.in_err-check_attached.ensures.cause)
