use Rattle.std.proofs.Common.{ap, ◌∙◌}
use Rattle.std.proofs.lemmas.Result.{on_ok_weaker}
use Rattle.template_directory.specs.Tables.{Table}
use Rattle.template_directory.proofs.EditLaws.{added_is, made_is}
use Rattle.template_directory.proofs.table.TemplateTable.add.Goals as goal

pub returns-clause-ok : goal.returns-clause-ok
returns-clause-ok c =
    on_ok_weaker c.put.result
    (λ put. added_is c.args.kind c.args.self.now.templates c.put.new.self.templates c.args.name.now c.args.copies c.args.stripe c.made-template.result
    (c.made-template.ensures ∙ made_is c.args.kind c.args.copies c.in_ok-spelt.ensures c.said_copies.ensures) (ap (λ (t : Table). t.templates) put))
    c.put.ensures.ok
