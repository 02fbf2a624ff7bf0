-- What du tells by the tables of a group, as the world's.
use Rattle.std.specs.Prelude.{◌≡◌, ℕ, List}
use Rattle.asm_group.specs.Group.{Cell}
use Rattle.asm_group.specs.Names.{Bytes, Path}
use Rattle.asm_world.specs.Below.{GroupBelow}
use Rattle.asm_world.specs.Listings as world
use Rattle.asm_world.specs.Reports.{du_lines}
use Rattle.catalog_tables.specs.Rules.{KeepsRules}
use Rattle.catalog_tables.specs.Tables.{Catalogued}
use Rattle.group_of.specs.Groups.{HasCells, group_of}
use Rattle.group_reports.specs.Extents.{file_units}
use Rattle.group_reports.specs.Files.{directory_usage}

-- What du tells by the tables, where they keep their rules, is what the world's group tells, whose files have their cells, above
-- a group whose files have these units.
abbrev pub UsageIsWorlds : Type 0
UsageIsWorlds =
    (name : Bytes) (c : Catalogued) (cells : ℕ → List Cell) (below : GroupBelow) (dir : Path) → KeepsRules c.shape c.tables → HasCells c.tables cells → below.units ≡ file_units c
    → (let taken = directory_usage c name dir c.tables.files in du_lines taken.used taken.mirrored) ≡ world.usage_of below (group_of name c.shape c.tables cells) dir
