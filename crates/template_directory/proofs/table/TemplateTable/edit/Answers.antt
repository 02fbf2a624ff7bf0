use Rattle.std.proofs.Common.{inl, refl}
use Rattle.refusal_lines.specs.Refusals.{meaning_of}
use Rattle.template_directory.specs.Meant.{template_edit_meant}
use Rattle.template_directory.proofs.EditLaws.{done_is, refused_is}
use Rattle.template_directory.proofs.table.TemplateTable.edit.Goals as goal

pub returns-in-Some-clause-refused : goal.returns-in-Some-clause-refused
returns-in-Some-clause-refused c = refused_is c.args.kind c.args.self.now.templates (template_edit_meant c.args.edit.now) c.in-Some.refusal c.refusal.ensures.allowed c.in-Some.ensures.cause

pub returns-in-Ok-clause-done : goal.returns-in-Ok-clause-done
returns-in-Ok-clause-done c =
    done_is c.args.kind c.args.self.now.templates c.apply.new.self.templates (template_edit_meant c.args.edit.now) c.refusal.ensures.allowed c.in_default.ensures.cause c.in-Ok.ensures.ok

pub returns-in-Err-clause-refused : goal.returns-in-Err-clause-refused
unfolding meaning_of
returns-in-Err-clause-refused c = inl refl
