use Rattle.std.proofs.Common.{refl, sym, ap, ◌∙◌}
use Rattle.asm_base.specs.Names.{name_of}
use Rattle.refusal_lines.specs.Refusals.{meaning_of}
use Rattle.refusal_lines.specs.declared.refusal.Refusal.TheVariants.{BadAttribute}
use Rattle.asm_world.specs.Statement as s
use Rattle.session.specs.group_files.declared.edit.GroupEdit.TheVariants as edits
use Rattle.name_commands.proofs.AskedEdits.{attribute_read, attribute_unread, settings_asked, settings_vain}
use Rattle.name_commands.proofs.settings.set_attribute.Goals as goal

pub edit_named-requires-clause-asks : goal.edit_named-requires-clause-asks
edit_named-requires-clause-asks g c =
    settings_asked c.args.desk.now.session.place c.args.text.now c.args.group (s.SetAttribute c.args.attribute) c.requires.asked refl (edits.SetAttribute c.in-Ok-Some.name c.attribute.inside.value) refl (λ group.
    attribute_read group c.args.attribute c.attribute.inside.name c.attribute.inside.value c.in-Ok-Some.name c.attribute.view_is (sym c.in-Ok-Some.field-0-is ∙ c.in-Ok-Some.ensures ∙ ap (name_of 255) c.as_slice.ensures))

pub refused_in-requires-clause-vain : goal.refused_in-requires-clause-vain
unfolding meaning_of
refused_in-requires-clause-vain g c =
    settings_vain c.args.desk.now.session.place c.args.text.now c.args.group (s.SetAttribute c.args.attribute) c.requires.asked refl (BadAttribute c.attribute.inside.name) (λ group.
    attribute_unread group c.args.attribute c.attribute.inside.name c.attribute.inside.value c.attribute.view_is (sym c.in-Ok-None.field-0-is ∙ c.in-Ok-None.ensures ∙ ap (name_of 255) c.as_slice.ensures))
