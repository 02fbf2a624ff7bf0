-- What a creation gives of a group's shape and settings.
use Rattle.std.specs.Prelude.{◌≡◌, ℕ, Bool, true, Option, Some, None}
use Rattle.asm_grammar.specs.Word.{when}
use Rattle.asm_group.specs.Shape.{Shape}
use Rattle.template_directory.specs.asm_formats.Items.{Settings, is_item, settings_item}
use Rattle.asm_world.specs.Settings as world
use Rattle.attribute_values.specs.declared.creation.Creation.{Creation}

-- the world's: the settings of a creation have the first incarnation besides
abbrev pub creation_meant : Creation → world.Creation
creation_meant c = record { shape = c.shape; attributes = c.settings.attributes }

-- a directory may hold the settings, and no file was made yet
pub record IsNewCreation (c : Creation) : Type 0 where
  pub allowed : is_item (settings_item c.settings) ≡ true
  pub incarnation : c.settings.incarnation ≡ 1

-- each that is given is so
abbrev pub AreNew : Option Creation → Type 0
AreNew None = Unit {0}
AreNew (Some c) = IsNewCreation c

-- the shape that a value makes, where it passes
abbrev pub shape_if : (ℕ → Bool) → (ℕ → Shape) → Option ℕ → Option Shape
shape_if test make None = None
shape_if test make (Some n) = when (test n) (make n)
