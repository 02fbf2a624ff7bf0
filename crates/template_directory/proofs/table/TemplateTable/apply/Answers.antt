use Rattle.std.proofs.Common.{sym, ap, ◌∙◌}
use Rattle.asm_group.specs.NewGroup.{templates_by_name}
use Rattle.asm_group.specs.TemplateEdits.{with_template_edit}
use Rattle.template_directory.specs.Meant.{template_edit_meant}
use Rattle.template_directory.proofs.table.TemplateTable.apply.Goals as goal

pub returns-in-Drop-clause-ok : goal.returns-in-Drop-clause-ok
returns-in-Drop-clause-ok c =
    c.take_away.ensures.done c.args.kind ∙ ap (λ edit. with_template_edit c.args.kind (templates_by_name c.args.self.now.templates) (template_edit_meant edit)) (sym c.in-Drop.is)
