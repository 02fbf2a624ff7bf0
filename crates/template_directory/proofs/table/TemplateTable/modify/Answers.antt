use Rattle.std.proofs.Common.{ap, ◌∙◌}
use Rattle.std.proofs.lemmas.Result.{on_ok_weaker}
use Rattle.template_directory.specs.Tables.{Table}
use Rattle.template_directory.proofs.EditLaws.{changed_is, modified_is, modify_allowed, modify_room}
use Rattle.template_directory.proofs.table.TemplateTable.modify.Goals as goal

pub put-requires-clause-allowed : goal.put-requires-clause-allowed
put-requires-clause-allowed c =
    modify_allowed c.args.kind c.args.self.now.templates c.args.name.now c.args.copies c.args.stripe c.in-Some.old.now c.made-template.result c.in-Some.ensures.allowed c.requires.edit c.in-Some.ensures.template
    (c.made-template.ensures ∙ changed_is c.args.kind c.in-Some.old.now c.args.copies (c.in_ok-spelt.ensures ∙ c.name.ensures) c.said_copies.ensures c.is_system.ensures)

pub put-requires-clause-room : goal.put-requires-clause-room
put-requires-clause-room c =
    modify_room c.args.kind c.args.self.now.templates c.args.name.now c.args.copies c.args.stripe c.in-Some.old.now c.made-template.result c.in-Some.ensures.allowed c.requires.edit c.in-Some.ensures.template
    (c.made-template.ensures ∙ changed_is c.args.kind c.in-Some.old.now c.args.copies (c.in_ok-spelt.ensures ∙ c.name.ensures) c.said_copies.ensures c.is_system.ensures)

pub returns-clause-ok : goal.returns-clause-ok
returns-clause-ok c =
    on_ok_weaker c.put.result
    (λ put. modified_is c.args.kind c.args.self.now.templates c.put.new.self.templates c.args.name.now c.args.copies c.args.stripe c.in-Some.old.now c.made-template.result c.in-Some.ensures.template
    (c.made-template.ensures ∙ changed_is c.args.kind c.in-Some.old.now c.args.copies (c.in_ok-spelt.ensures ∙ c.name.ensures) c.said_copies.ensures c.is_system.ensures) (ap (λ (t : Table). t.templates) put))
    c.put.ensures.ok
