-- What the names and the paths of commands are made of.
use Rattle.std.specs.Prelude.{◌≡◌, true, false, List, Some, None}
use Rattle.std.specs.List.{list_all}
use Rattle.asm_group.specs.Group.{Attributes}
use Rattle.asm_group.specs.Names.{Bytes, Path, is_name, is_part, is_same_name}
use Rattle.asm_world.specs.Command.{Said}
use Rattle.asm_world.specs.Language.{command_of}
use Rattle.asm_world.specs.Paths.{clause_path, target_from}
use Rattle.asm_world.specs.Settings.{with_attribute}
use Rattle.asm_world.specs.Statement.{Attribute, TemplateWords, Alter, AddTemplate, ModifyTemplate}

-- The statements name a template by a name of the grammar.
pub record TemplatesHaveNames : Type 0 where
  pub added : (text group template : Bytes) (words : TemplateWords) → command_of text ≡ Said (Alter group (AddTemplate template words)) → is_name template ≡ true
  pub modified : (text group template : Bytes) (words : TemplateWords) → command_of text ≡ Said (Alter group (ModifyTemplate template words)) → is_name template ≡ true

-- Paths have parts of at most 80 bytes: in a clause always, and in a verb where the session's place has such parts alone.
pub record PathsHaveParts : Type 0 where
  pub clause : (group path : Bytes) (inside : Path) → clause_path group path ≡ Some inside → list_all (is_part 80) inside ≡ true
  pub verb : (place : List Bytes) (path group : Bytes) (inside : Path) → list_all (is_part 80) place ≡ true → target_from place path ≡ Some (group, inside) → list_all (is_part 80) inside ≡ true
  -- whatever the case of letters
  pub same : (a b : Bytes) → is_same_name a b ≡ true → is_part 80 b ≡ true → is_part 80 a ≡ true

-- No attribute has a name that isn't a part of a path.
abbrev pub AttributesHaveParts : Type 0
AttributesHaveParts = (old : Attributes) (a : Attribute) → is_part 255 a.name ≡ false → with_attribute old a ≡ None
