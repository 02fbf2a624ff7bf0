use Rattle.std.proofs.Common.{refl, sym, ap, ◌∙◌}
use Rattle.asm_world.specs.Settings.{group_after_template_edit}
use Rattle.asm_world.specs.Statement.{ModifyTemplate}
use Rattle.template_directory.specs.Meant.{is_template_edit}
use Rattle.session.specs.group_files.declared.edit.GroupEdit.TheVariants.{Templates}
use Rattle.world_steps.proofs.Said.{templates_have_names}
use Rattle.name_commands.proofs.AskedEdits.{settings_asked, words_allowed}
use Rattle.name_commands.proofs.settings.modify_template.Goals as goal

pub edit_named-requires-clause-asks : goal.edit_named-requires-clause-asks
edit_named-requires-clause-asks g c = settings_asked c.args.desk.now.session.place c.args.text.now c.args.group (ModifyTemplate c.args.name c.args.words) c.requires.asked refl (Templates c.modified_by-edit.result) refl (λ group. ap (group_after_template_edit group) (sym c.modified_by-edit.ensures))

pub edit_named-requires-clause-allowed : goal.edit_named-requires-clause-allowed
edit_named-requires-clause-allowed g c = ap is_template_edit c.modified_by-edit.ensures ∙ words_allowed c.args.name c.args.words (templates_have_names.modified c.args.text.now c.args.group c.args.name c.args.words c.requires.asked)
