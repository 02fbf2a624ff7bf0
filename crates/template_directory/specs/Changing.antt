-- What a change of records does to the table of templates and settings.
use Rattle.std.specs.Prelude.{ℕ, ◌==◌, ◌&&◌, List, Option, Some, None, if◌then◌else◌}
use Rattle.std.specs.Option.{option_map}
use Rattle.asm_formats.specs.Items.{Item, Key, templates_item, settings_item, settings_kind, templates_kind}
use Rattle.asm_formats.specs.Values.{value}
use Rattle.template_directory.specs.Tables.{Table}

-- what the table says at a key
abbrev pub template_item_at : Table → Key → Option Item
template_item_at t k =
    if k.kind == templates_kind then (if (k.a == 0) && (k.b == 0) then Some (templates_item t.templates) else None)
    else if k.kind == settings_kind then (if (k.a == 0) && (k.b == 0) then Some (settings_item t.settings) else None)
    else None

-- the value of its record
abbrev pub template_value_at : Table → Key → Option (List ℕ)
template_value_at t k = option_map value (template_item_at t k)
