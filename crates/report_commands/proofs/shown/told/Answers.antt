use Rattle.std.proofs.Common.{◌≡◌, sym, subst}
use Rattle.std.proofs.lemmas.Result.{IfOk-weaker}
use Rattle.refusal_lines.specs.declared.refusal.Refusal.{Refusal}
use Rattle.refusal_lines.specs.declared.refusal.Refusal.TheVariants as cause
use Rattle.session.specs.Naming.{IsOutCause}
use Rattle.session.proofs.Carrying.{if_err}
use Rattle.session.proofs.Telling.{no_memory_out}
use Rattle.report_commands.proofs.shown.told.Goals as goal

pub returns-in-Ok-clause-told : goal.returns-in-Ok-clause-told
returns-in-Ok-clause-told c = IfOk-weaker c.told_of.result _ _ (λ lines is. record { group = c.in-Ok.m.now; is_group = c.in-Ok.ensures.found; caused = is }) c.told_of.ensures.told

pub returns-in-Ok-clause-cause : goal.returns-in-Ok-clause-cause
returns-in-Ok-clause-cause c =
    let entries = c.args.session.now.entries in
    let name = c.args.name.now in
    if_err (λ (refusal : Refusal). refusal ≡ cause.NoMemory) (λ (refusal : Refusal). IsOutCause entries name refusal) c.told_of.result
    (λ refusal want. subst (λ (x : Refusal). IsOutCause entries name x) (sym want) (no_memory_out entries name)) c.told_of.ensures.cause
