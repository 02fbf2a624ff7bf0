use Rattle.std.proofs.Common.{◌≡◌, take, map}
use Rattle.asmcmd.specs.Texts.{template_row}
use Rattle.group_reports.proofs.rows.rows_of_templates.Given as goal

abbrev pub invariant-loop-template : goal.invariant-loop-template
invariant-loop-template l = l.rows.items ≡ map template_row (take l.template-index l.templates)
