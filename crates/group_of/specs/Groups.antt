-- The group that a catalog's tables are, with the cells of its files.
use Rattle.std.specs.Prelude.{◌≡◌, ℕ, List, [], length, map, Option, Some, None}
use Rattle.std.specs.FinMap as maps
use Rattle.asm_group.specs.Names.{Bytes, ByNumber}
use Rattle.asm_group.specs.Shape.{Shape}
use Rattle.asm_group.specs.Group.{Cell, File, Group}
use Rattle.asm_group.specs.NewGroup.{templates_by_name}
use Rattle.asm_formats.specs.Items.{FileHead}
use Rattle.catalog_laws.specs.alias_tree.Trees.{tree_of}
use Rattle.catalog_laws.specs.file_directory.Files as heads
use Rattle.catalog_laws.specs.catalog_tables.Tables.{Tables}

-- the file of a head, with these cells
abbrev pub file_of_head : FileHead → List Cell → File
file_of_head head cells = record { copies = head.copies; stripe = head.stripe; type_name = head.type_name; incarnation = head.incarnation; cells = cells }

-- the files by their numbers: each head has a system node, as the formats ask
abbrev pub files_by_number : (ℕ → List Cell) → List heads.NumberedFile → ByNumber File
files_by_number cells files = maps.from_entries (map (λ (x : heads.NumberedFile). (x.0, file_of_head x.1 (cells x.0))) files)

-- The group of these tables, of this name and shape, whose files have these cells.
unfoldable pub group_of : Bytes → Shape → Tables → (ℕ → List Cell) → Group
group_of name shape t cells = record {
  name = name;
  shape = shape;
  tree = tree_of t.nodes;
  files = files_by_number cells t.files;
  templates = templates_by_name t.templates.templates;
  attributes = t.templates.settings.attributes;
  next = t.templates.settings.incarnation;
}

-- each file has as many cells as its head says
abbrev pub HasCells : Tables → (ℕ → List Cell) → Type 0
HasCells t cells = (f : ℕ) (head : FileHead) → heads.head_at t.files f ≡ Some head → length (cells f) ≡ head.size

-- the cells of a file that may be there
abbrev pub cells_in_file : Option File → List Cell
cells_in_file None = []
cells_in_file (Some file) = file.cells

-- the cells of a group's files, by their numbers
abbrev pub cells_of : Group → ℕ → List Cell
cells_of g f = cells_in_file (maps.get g.files f)

-- the cells are those, but for those of file f
abbrev pub AreCellsButFor : ℕ → (ℕ → List Cell) → (ℕ → List Cell) → Type 0
AreCellsButFor f cells new = (k : ℕ) → (k ≡ f → ⊥) → new k ≡ cells k
