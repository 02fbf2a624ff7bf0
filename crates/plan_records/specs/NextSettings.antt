-- The settings once a file is made.
use Rattle.asm_formats.specs.Items.{Settings}
use Rattle.attribute_values.specs.asm_world.Files.{next_incarnation}

-- the settings with the incarnation after the next
abbrev pub settings_next : Settings → Settings
settings_next s = record s { incarnation = next_incarnation s.incarnation }
