use Rattle.std.proofs.Common.{◌∙◌, ap}
use Rattle.std.proofs.lemmas.Result.{IfOk-weaker}
use Rattle.asmcmd.specs.Texts.{group_lines}
use Rattle.report_commands.proofs.GroupLists.{lines_are}
use Rattle.report_commands.proofs.group_rows.lines_of.Goals as goal

pub returns : goal.returns
returns c =
    IfOk-weaker c.group_lines.result _ _
    (λ lines is. lines_are c.args.session.now c.args.group.now c.groups-groups.result.now.entries c.in_ok-rows.rows.items lines c.groups-groups.ensures.entries c.groups-groups.ensures.groups c.in_ok-rows.ensures
    (is ∙ ap group_lines c.deref.ensures.value))
    c.group_lines.ensures
