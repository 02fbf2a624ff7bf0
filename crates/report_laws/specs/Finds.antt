-- What find tells by the tables of a group, as the world's.
use Rattle.std.specs.Prelude.{◌≡◌, ℕ, List, map}
use Rattle.asm_group.specs.Group.{Cell}
use Rattle.asm_group.specs.Names.{Bytes, Path}
use Rattle.asm_group.specs.Shape.{Shape}
use Rattle.asm_world.specs.Listings as world
use Rattle.asmcmd.specs.Texts.{path_line}
use Rattle.catalog_tables.specs.Rules.{KeepsRules}
use Rattle.catalog_tables.specs.Tables.{Tables}
use Rattle.group_of.specs.Groups.{group_of}
use Rattle.group_reports.specs.Files.{paths_found}

-- The paths below a directory that match, where the tables keep their rules: each file has its names, and each name its file.
abbrev pub FoundAreWorlds : Type 0
FoundAreWorlds =
    (name : Bytes) (s : Shape) (t : Tables) (cells : ℕ → List Cell) (dir : Path) (pattern : Bytes) → KeepsRules s t
    → map path_line (paths_found t name dir pattern) ≡ world.found_in (group_of name s t cells) dir pattern
