use Rattle.std.proofs.Common.{◌≡◌, true, subst, sym}
use Rattle.asm_formats.specs.Items.{Settings, is_item, settings_item}
use Rattle.mounted_groups.proofs.FirstBodies.{settings_ok}
use Rattle.mounted_groups.proofs.first_change.first_settings.Goals as goal

pub settings_value-requires : goal.settings_value-requires
settings_value-requires c = subst (λ (s : Settings). is_item (settings_item s) ≡ true) (sym c.usual-settings.ensures) settings_ok
