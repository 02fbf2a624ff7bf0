use Rattle.std.proofs.Common.{◌≡◌, ◌∙◌, ap, inl}
use Rattle.std.proofs.lemmas.Result.{IfOk-weaker}
use Rattle.refusal_lines.specs.declared.refusal.Refusal.{Refusal}
use Rattle.refusal_lines.specs.declared.refusal.Refusal.TheVariants as cause
use Rattle.asmcmd.specs.Texts.{ls_row_lines}
use Rattle.session.proofs.Carrying.{if_err}
use Rattle.report_commands.specs.Listed.{IsUnlisted}
use Rattle.report_commands.proofs.listing.listed.Goals as goal

pub returns-in-Ok-clause-lines : goal.returns-in-Ok-clause-lines
returns-in-Ok-clause-lines c =
    IfOk-weaker c.lines_of.result _ _ (λ lines is. (c.in-Ok.rows.items, c.in-Ok.ensures.rows, is ∙ ap (ls_row_lines c.args.long) c.deref.ensures.value)) c.lines_of.ensures.lines

pub returns-in-Ok-clause-cause : goal.returns-in-Ok-clause-cause
returns-in-Ok-clause-cause c =
    if_err (λ (refusal : Refusal). refusal ≡ cause.NoMemory) (λ (refusal : Refusal). IsUnlisted c.args.session.now c.args.parts.now refusal) c.lines_of.result (λ refusal want. inl want) c.lines_of.ensures.cause
