-- What lsattr and lstmpl tell by the tables of a group, as the world's reports.
use Rattle.std.specs.Prelude.{◌≡◌, ℕ, List, map}
use Rattle.asm_group.specs.Group.{Cell}
use Rattle.asm_group.specs.Names.{Bytes}
use Rattle.asm_group.specs.Shape.{Shape}
use Rattle.asm_world.specs.Listings.{template_rows}
use Rattle.asm_world.specs.Reports as world
use Rattle.asmcmd.specs.Texts as texts
use Rattle.catalog_tables.specs.Tables.{AreTables, Tables}
use Rattle.group_of.specs.Groups.{group_of}

abbrev pub AttributesAreWorlds : Type 0
AttributesAreWorlds =
    (name : Bytes) (s : Shape) (t : Tables) (cells : ℕ → List Cell)
    → texts.attribute_row_lines (texts.attribute_rows s t.templates.settings.attributes) ≡ world.attribute_lines (group_of name s t cells).shape (group_of name s t cells).attributes

-- The templates stand in folded order.
abbrev pub TemplatesAreWorlds : Type 0
TemplatesAreWorlds =
    (name : Bytes) (s : Shape) (t : Tables) (cells : ℕ → List Cell) → AreTables t
    → texts.template_row_lines (map texts.template_row t.templates.templates) ≡ world.template_lines (template_rows (group_of name s t cells))
