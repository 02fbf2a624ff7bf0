use Rattle.std.proofs.Common.{refl}
use Rattle.asm_world.specs.Statement.{DropTemplate}
use Rattle.template_directory.specs.declared.editing.TemplateEdit.TheVariants.{Drop}
use Rattle.session.specs.group_files.declared.edit.GroupEdit.TheVariants.{Templates}
use Rattle.name_commands.proofs.AskedEdits.{settings_asked}
use Rattle.name_commands.proofs.settings.drop_template.Goals as goal

pub edit_named-requires-clause-asks : goal.edit_named-requires-clause-asks
edit_named-requires-clause-asks g c = settings_asked c.args.desk.now.session.place c.args.text.now c.args.group (DropTemplate c.args.name) c.requires.asked refl (Templates (Drop c.args.name)) refl (λ group. refl)
