use Rattle.std.proofs.Common.{◌≡◌, true, Option, Some, sym, subst, ◌∙◌}
use Rattle.std.specs.Prelude.{IfSome}
use Rattle.template_directory.specs.asm_formats.Items.{Settings, is_item, settings_item}
use Rattle.attribute_values.specs.Creations.{creation_meant}
use Rattle.attribute_values.specs.Edits.{settings_with}
use Rattle.attribute_values.proofs.CreationLaws.{no_setting, setting_is, still_first}
use Rattle.attribute_values.proofs.creation.Creation.with_setting.Goals as goal

pub returns-in_default-clause-given : goal.returns-in_default-clause-given
returns-in_default-clause-given c =
    no_setting (creation_meant c.args.self.now) c.args.self.now.settings c.args.name.now c.args.value.now (sym c.in_default.is ∙ c.in_ok-settings.ensures.edited)

pub returns-clause-given : goal.returns-clause-given
returns-clause-given c =
    setting_is (creation_meant c.args.self.now) c.args.self.now.settings c.in-Some.settings c.args.name.now c.args.value.now (sym c.in-Some.is ∙ c.in_ok-settings.ensures.edited)

pub returns-clause-new : goal.returns-clause-new
returns-clause-new c =
    let set : Some c.in-Some.settings ≡ settings_with c.args.self.now.settings c.args.name.now c.args.value.now = sym c.in-Some.is ∙ c.in_ok-settings.ensures.edited in
    record {
      allowed = subst (λ (o : Option Settings). IfSome o (λ (s : Settings). is_item (settings_item s) ≡ true)) c.in-Some.is c.in_ok-settings.ensures.allowed;
      incarnation = still_first c.args.self.now.settings c.in-Some.settings c.args.name.now c.args.value.now set ∙ c.requires.incarnation;
    }
