-- A group with other bytes in one file.
use Rattle.std.specs.Prelude.{◌≡◌, ◌⊎◌, ℕ, List, length, Some}
use Rattle.std.specs.FinMap as maps
use Rattle.asm_group.specs.Group.{Cell, File, Group}
use Rattle.asm_formats.specs.Status.{Status}
use Rattle.asm_formats.specs.Items.{Item}
use Rattle.asm_images.specs.Describing.{DescribesGroup}
use Rattle.asm_world.specs.Files.{with_file_cells}

-- h is g with other bytes in one file, which keeps its length
pub record RewritesFile (g h : Group) : Type 0 where
  pub number : ℕ
  pub file : File
  pub is_file : maps.get g.files number ≡ Some file
  pub cells : List Cell
  pub length_is : length cells ≡ length file.cells
  pub same : h ≡ with_file_cells g number file cells

-- h is g, or g with other bytes in one file
abbrev pub Rewrites : Group → Group → Type 0
Rewrites g h = (h ≡ g) ⊎ RewritesFile g h

-- ---- laws

-- With other bytes in a file, records describe the group that they did.
abbrev pub RewrittenIsDescribed : Type 0
RewrittenIsDescribed = (r : Status) (items : List Item) (g h : Group) → Rewrites g h → DescribesGroup r items g → DescribesGroup r items h
