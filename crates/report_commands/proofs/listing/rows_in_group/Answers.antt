use Rattle.std.proofs.Common.{◌≡◌, ◌⊎◌, inr, inl}
use Rattle.std.proofs.lemmas.Result.{IfOk-weaker}
use Rattle.refusal_lines.specs.declared.refusal.Refusal.{Refusal}
use Rattle.refusal_lines.specs.declared.refusal.Refusal.TheVariants as cause
use Rattle.group_reports.specs.Listing.{IsListCause}
use Rattle.report_commands.specs.Listed.{IsRefusedIn}
use Rattle.session.proofs.Carrying.{if_err}
use Rattle.report_commands.proofs.GroupNames.{cause_in_text, none_text, out_text, rows_in_text}
use Rattle.report_commands.proofs.listing.rows_in_group.Goals as goal

pub returns-in_default-clause-cause : goal.returns-in_default-clause-cause
returns-in_default-clause-cause c = inr (inl (none_text c.args.session.now.entries c.args.name.now c.in_default.ensures))

pub returns-in-Err-clause-cause : goal.returns-in-Err-clause-cause
returns-in-Err-clause-cause c = inr (inl (out_text c.args.session.now c.in-Some.name.now c.args.name.now c.in-Err.refusal c.in-Some.ensures c.in-Err.ensures.cause))

pub returns-in-Ok-clause-rows : goal.returns-in-Ok-clause-rows
returns-in-Ok-clause-rows c =
    IfOk-weaker c.rows_of.result _ _ (λ rows are. rows_in_text c.args.session.now c.in-Some.name.now c.args.name.now c.in-Ok.m.now c.args.parts.now rows.items c.in-Some.ensures c.in-Ok.ensures.found c.rows_of.ensures.rules are) c.rows_of.ensures.rows

pub returns-in-Ok-clause-cause : goal.returns-in-Ok-clause-cause
returns-in-Ok-clause-cause c =
    if_err (λ (refusal : Refusal). IsListCause c.in-Ok.m.now.catalog.tables c.args.parts.now refusal) (λ (refusal : Refusal). (refusal ≡ cause.NoMemory) ⊎ IsRefusedIn c.args.session.now c.args.name.now c.args.parts.now refusal) c.rows_of.result
    (λ refusal why. cause_in_text c.args.session.now c.in-Some.name.now c.args.name.now c.in-Ok.m.now c.args.parts.now refusal c.in-Some.ensures c.in-Ok.ensures.found why) c.rows_of.ensures.cause
