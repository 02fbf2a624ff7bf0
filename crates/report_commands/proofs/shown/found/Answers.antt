use Rattle.std.proofs.Common.{◌≡◌, ◌⊎◌, ⊎_elim, inr, Err, sym, subst}
use Rattle.std.proofs.lemmas.Result.{IfOk-weaker}
use Rattle.refusal_lines.specs.declared.refusal.Refusal.{Refusal}
use Rattle.refusal_lines.specs.declared.refusal.Refusal.TheVariants as cause
use Rattle.group_reports.specs.Places.{directory_at}
use Rattle.session.specs.Listing.{IsPathCause}
use Rattle.session.proofs.Carrying.{if_err}
use Rattle.session.proofs.Telling.{no_memory_at}
use Rattle.report_commands.proofs.shown.found.Goals as goal

pub returns-in-Ok-clause-found : goal.returns-in-Ok-clause-found
returns-in-Ok-clause-found c = IfOk-weaker c.found_at.result _ _ (λ lines is. record { group = c.in-Ok.m.now; is_group = c.in-Ok.ensures.found; caused = is }) c.found_at.ensures.found

pub returns-in-Ok-clause-cause : goal.returns-in-Ok-clause-cause
returns-in-Ok-clause-cause c =
    let session = c.args.session.now in
    let path = c.args.path.now in
    if_err (λ (refusal : Refusal). (directory_at c.in-Ok.m.now.catalog.tables path.parts ≡ Err refusal) ⊎ (refusal ≡ cause.NoMemory)) (λ (refusal : Refusal). IsPathCause session path.group path.parts refusal) c.found_at.result
    (λ refusal why. ⊎_elim
    (λ none. inr (record { group = c.in-Ok.m.now; is_group = c.in-Ok.ensures.found; caused = none }))
    (λ want. subst (λ (x : Refusal). IsPathCause session path.group path.parts x) (sym want) (no_memory_at session path.group path.parts))
    why) c.found_at.ensures.cause
