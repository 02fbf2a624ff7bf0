-- The edit of a group's settings that SET ATTRIBUTE is.
use Rattle.std.specs.Prelude.{Option}
use Rattle.std.specs.Option.{option_map}
use Rattle.asm_group.specs.Names.{Bytes}
use Rattle.template_directory.specs.asm_formats.Items.{Settings}
use Rattle.asm_world.specs.Settings.{with_attribute}

-- the settings with this value of an attribute; None where there is no such name or value
abbrev pub settings_with : Settings → Bytes → Bytes → Option Settings
settings_with s name value = option_map (λ attributes. record s { attributes = attributes }) (with_attribute s.attributes (record { name = name; value = value }))
