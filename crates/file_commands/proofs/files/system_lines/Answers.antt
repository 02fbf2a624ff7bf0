use Rattle.std.proofs.Common.{ap, ◌∙◌}
use Rattle.std.proofs.lemmas.Result.{IfOk-weaker}
use Rattle.asm_formats.specs.Items.{FileHead}
use Rattle.session.proofs.Calls.{of_head}
use Rattle.file_commands.proofs.files.system_lines.Goals as goal

pub returns-in_ok-line-in-Some : goal.returns-in_ok-line-in-Some
returns-in_ok-line-in-Some c = IfOk-weaker c.one_line.result _ _
    (λ lines is. is ∙ of_head c.args.m.now c.args.file c.catalog.result.now c.catalog-in-Some.result.now c.name.result.now c.in-Some.head.now c.head.inside.system c.in_ok-line-in-Some.line
    c.catalog.ensures c.catalog-in-Some.ensures c.name.ensures (ap (λ (h : FileHead). h.system) c.head.view_is) c.in-Some.ensures c.in_ok-line-in-Some.ensures)
    c.one_line.ensures
