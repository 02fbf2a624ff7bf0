use Rattle.std.proofs.Common.{◌≡◌, true, sym, ◌∙◌, arith}
use Rattle.asm_world.specs.Settings.{is_version}
use Rattle.template_directory.proofs.asm_base.Tables.{bytes_are}
use Rattle.attribute_values.proofs.SettingLaws.{allowed_with, asm_stays, new_text, rdbms_stays, repair_stays}
use Rattle.attribute_values.proofs.setting.with_advm.Goals as goal

pub returns-clause-allowed : goal.returns-clause-allowed
returns-clause-allowed c =
    let version : is_version c.args.value.now ≡ true = sym c.is_version.ensures ∙ c.if-not-is_version.false in
    allowed_with c.settings.view_is c.requires c.settings.inside.repair c.in_ok-copy.field-0 c.in_ok-copy-2.field-0 c.in_ok-from_slice.field-0 (repair_stays c.settings.view_is c.requires) (asm_stays c.settings.view_is c.requires c.in_ok-copy.field-0 c.in_ok-copy.ensures) (rdbms_stays c.settings.view_is c.requires c.in_ok-copy-2.field-0 c.in_ok-copy-2.ensures) (new_text c.in_ok-from_slice.field-0 c.args.value.now c.in_ok-from_slice.ensures version (bytes_are c.args.value.now (λ i. omega (arith, c.type_inv.value i))))
