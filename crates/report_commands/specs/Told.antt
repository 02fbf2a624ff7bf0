-- What the reports on one mounted group tell, and those on a directory in it: du and find.
use Rattle.std.specs.Prelude.{◌≡◌, ℕ, List, [], ◌∷◌, map, Ok}
use Rattle.asm_group.specs.Names.{Bytes, Path}
use Rattle.asm_world.specs.Command.{Asked, Said, ListAttributes, ListDisks, ListTemplates}
use Rattle.asm_world.specs.Language.{command_of}
use Rattle.asm_world.specs.Reports.{check_line, du_lines}
use Rattle.asm_world.specs.Statement.{Alter, Check}
use Rattle.asmcmd.specs.Texts as texts
use Rattle.catalog_tables.specs.Rules.{KeepsRules}
use Rattle.session.specs.group_engine.Mounts.{MountedGroup}
use Rattle.group_reports.specs.Disks.{disk_rows}
use Rattle.group_reports.specs.Extents.{all_extents, checked_of}
use Rattle.group_reports.specs.Files.{paths_found, directory_usage}
use Rattle.group_reports.specs.Places.{directory_at}
use Rattle.report_commands.specs.declared.shown.Report.{Report}
use Rattle.report_commands.specs.declared.shown.Report.TheVariants as report

-- ---- reports on a group

abbrev pub disks_told : MountedGroup → List Bytes
disks_told m = texts.disk_row_lines (map texts.disk_row (disk_rows m.catalog m.register.value.entries))

abbrev pub checked_told : MountedGroup → List Bytes
checked_told m = let checked = checked_of m.register.value.entries (all_extents m.catalog) in check_line checked.extents checked.not_full ∷ []

abbrev pub templates_told : MountedGroup → List Bytes
templates_told m = texts.template_row_lines (map texts.template_row m.catalog.tables.templates.templates)

abbrev pub attributes_told : MountedGroup → List Bytes
attributes_told m = texts.attribute_row_lines (texts.attribute_rows m.catalog.shape m.catalog.tables.templates.settings.attributes)

-- the lines of a report
abbrev pub report_lines : Report → MountedGroup → List Bytes
report_lines report.Disks m = disks_told m
report_lines report.Check m = checked_told m
report_lines report.Templates m = templates_told m
report_lines report.Attributes m = attributes_told m

-- The text asks for the report on the group of a name.
abbrev pub AsksForReport : Bytes → Bytes → Report → Type 0
AsksForReport text name report.Disks = command_of text ≡ Asked (ListDisks name)
AsksForReport text name report.Check = command_of text ≡ Said (Alter name Check)
AsksForReport text name report.Templates = command_of text ≡ Asked (ListTemplates name)
AsksForReport text name report.Attributes = command_of text ≡ Asked (ListAttributes name)

-- ---- reports on a directory

-- The path leads to a directory, and this is what is told of it, by tables that keep their rules.
pub record IsToldAt (m : MountedGroup) (path : Path) (told lines : List Bytes) : Type 0 where
  pub node : ℕ
  pub leads : directory_at m.catalog.tables path ≡ Ok node
  pub rules : KeepsRules m.catalog.shape m.catalog.tables
  pub is : lines ≡ told

-- what the files below a directory take
abbrev pub usage_told : MountedGroup → Path → List Bytes
usage_told m dir = let taken = directory_usage m.catalog m.name dir m.catalog.tables.files in du_lines taken.used taken.mirrored

abbrev pub IsUsageIn : MountedGroup → Path → List Bytes → Type 0
IsUsageIn m path lines = IsToldAt m path (usage_told m path) lines

-- the paths below a directory
abbrev pub found_told : MountedGroup → Path → Bytes → List Bytes
found_told m dir pattern = map texts.path_line (paths_found m.catalog.tables m.name dir pattern)

abbrev pub AreFoundLines : MountedGroup → Path → Bytes → List Bytes → Type 0
AreFoundLines m path pattern lines = IsToldAt m path (found_told m path pattern) lines
