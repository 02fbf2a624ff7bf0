-- The name of a new file.
use Rattle.std.specs.Prelude.{◌≡◌, true, Option, None, if◌then◌else◌}
use Rattle.asm_group.specs.Names.{Path, is_part}
use Rattle.attribute_values.specs.asm_world.Files.{NewName, new_name}
use Rattle.alias_edits.specs.Edits.{are_parts}
use Rattle.plan_records.specs.declared.new_names.NameParts.{NameParts}

-- The name of a new file, where one may have the path: its parts have at most 80 bytes, and it is as new_name asks.
abbrev pub name_at : Path → Option NewName
name_at path = if are_parts path then new_name path else None

-- a name with parts of the grammar, of so many bytes at most
pub record HasParts (name : NewName) : Type 0 where
  pub db : is_part 80 name.db ≡ true
  pub type_name : is_part 30 name.type_name ≡ true
  pub tag : is_part 48 name.tag ≡ true

-- the name that the code's parts are
abbrev pub name_meant : NameParts → NewName
name_meant parts = record { db = parts.db.now; type_name = parts.kind.now; tag = parts.tag.now }
