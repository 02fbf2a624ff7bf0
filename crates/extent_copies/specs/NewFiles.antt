-- How many copies a new file has, and how it is striped.
use Rattle.std.specs.Prelude.{ℕ, Bool, ◌==◌, ◌&&◌, not, List, length, Option, Some, None}
use Rattle.asm_group.specs.Names.{Bytes}
use Rattle.asm_group.specs.Group.{Template}
use Rattle.asm_formats.specs.Status.{Entry}
use Rattle.asm_placement.specs.DiskSets.{distinct_failgroups}
use Rattle.asm_placement.specs.Modes.{stays}
use Rattle.asm_placement.specs.Partners.{table_disks}
use Rattle.asm_world.specs.Files.{if_system}
use Rattle.template_directory.specs.Tables.{template_named}
use Rattle.partnership.specs.Tables.{is_table_disk}
-- the disk lies in the failure group
pub use Rattle.partnership.specs.Selections.{lies_in as is_of_group}

-- how many regular failure groups have a disk that is Online, Offline or Syncing
abbrev pub serving_groups : List Entry → ℕ
serving_groups es = length (distinct_failgroups (table_disks es))

-- the template of this name, or else the system template of the type
abbrev pub template_by : List Template → Bytes → Option Bytes → Option Template
template_by ts type_name None = if_system (template_named type_name ts)
template_by ts type_name (Some name) = template_named name ts
