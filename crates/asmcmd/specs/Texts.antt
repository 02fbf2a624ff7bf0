-- The lines of rows.
use Rattle.std.specs.Prelude.{◌≡◌, ℕ, Bool, true, false, ◌==◌, List, [], ◌∷◌, ◌++◌, map, codes, Option, Some, None, if◌then◌else◌}
use Rattle.std.specs.Fmt.{decimal}
use Rattle.std.specs.Str.{bytes_eq}
use Rattle.asm_group.specs.Group.{Template, Attributes}
use Rattle.asm_group.specs.Names.{Bytes}
use Rattle.asm_group.specs.Refusal.{spaced, mode_text}
use Rattle.asm_group.specs.Shape.{Shape}
use Rattle.asm_base.specs.Names.{path_text_in_group}
use Rattle.asm_base.specs.declared.path.Path.{Path}
use Rattle.asm_world.specs.Reports as r
use Rattle.asmcmd.specs.declared.rows.LsRow.{LsRow}
use Rattle.asmcmd.specs.declared.rows.GroupRow.{GroupRow}
use Rattle.asmcmd.specs.declared.rows.DiskRow.{DiskRow}
use Rattle.asmcmd.specs.declared.rows.TemplateRow.{TemplateRow}
use Rattle.asmcmd.specs.declared.rows.AttrRow.{AttrRow}
use Rattle.asmcmd.specs.declared.text.Field.{Field}
use Rattle.asmcmd.specs.declared.text.Field.TheVariants.{Word, Directory, Number, WideNumber}

abbrev pub text_of_field : Field → Bytes
text_of_field (Word word) = word.now
text_of_field (Directory name) = name.now ++ 47 ∷ []
text_of_field (Number n) = decimal n
text_of_field (WideNumber n) = decimal n

-- ---- ls

-- a directory with / after it
abbrev pub short_row_line : LsRow → Bytes
short_row_line row = if row.dir then row.name ++ 47 ∷ [] else row.name

-- the columns of a file, and where an alias leads
abbrev pub file_line : LsRow → Option Bytes → Bytes
file_line row None = spaced (row.kind ∷ row.redund ∷ row.striped ∷ row.sys ∷ row.name ∷ [])
file_line row (Some target) = spaced (row.kind ∷ row.redund ∷ row.striped ∷ codes "N" ∷ row.name ∷ codes "=>" ∷ target ∷ [])

abbrev pub directory_line : Bytes → Bytes
directory_line name = spaced (codes "DIR" ∷ codes "-" ∷ codes "-" ∷ codes "N" ∷ (name ++ 47 ∷ []) ∷ [])

abbrev pub long_row_line : LsRow → Bytes
long_row_line row = if row.dir then directory_line row.name else file_line row row.target

abbrev pub ls_row_lines : Bool → List LsRow → List Bytes
ls_row_lines false rows = map short_row_line rows
ls_row_lines true rows = codes "Type Redund Striped Sys Name" ∷ map long_row_line rows

-- ---- find

abbrev pub path_line : Path → Bytes
path_line path = path_text_in_group path.group path.parts

-- ---- lsdg

abbrev pub mounted_row_line : GroupRow → Bytes
mounted_row_line row = spaced (row.state ∷ row.kind ∷ row.rebal ∷ decimal row.sector ∷ decimal row.block ∷ decimal row.au ∷ decimal row.total ∷ decimal row.free ∷ decimal row.offline ∷ row.name ∷ [])

abbrev pub group_row_line : GroupRow → Bytes
group_row_line row = if bytes_eq row.state (codes "DISMOUNTED") then r.dismounted_line row.name else mounted_row_line row

abbrev pub group_lines : List GroupRow → List Bytes
group_lines rows = r.group_head ∷ map group_row_line rows

-- ---- lsdsk, lstmpl and lsattr

abbrev pub disk_row_line : DiskRow → Bytes
disk_row_line row = spaced (decimal row.number ∷ row.mode ∷ row.failgroup ∷ row.kind ∷ decimal row.total ∷ decimal row.free ∷ row.name ∷ [])

abbrev pub disk_row_lines : List DiskRow → List Bytes
disk_row_lines rows = codes "Number Mode Failgroup Kind Total Free Name" ∷ map disk_row_line rows

abbrev pub template_row_line : TemplateRow → Bytes
template_row_line row = spaced (row.name ∷ row.redund ∷ row.striped ∷ row.sys ∷ [])

abbrev pub template_row_lines : List TemplateRow → List Bytes
template_row_lines rows = codes "Name Redund Striped Sys" ∷ map template_row_line rows

abbrev pub attribute_line : AttrRow → Bytes
attribute_line row = spaced (row.name ∷ row.value ∷ [])

abbrev pub attribute_row_lines : List AttrRow → List Bytes
attribute_row_lines rows = codes "Name Value" ∷ map attribute_line rows

-- ---- the rows of what the reports show

abbrev pub listed_row : r.Listed → LsRow
listed_row (r.Directory name) = record { kind = codes "DIR"; redund = codes "-"; striped = codes "-"; sys = codes "N"; name = name; dir = true; target = None }
listed_row (r.ListedSystemName type_name copies stripe name) =
    record { kind = type_name; redund = r.copies_text copies; striped = r.stripe_text stripe; sys = codes "Y"; name = name; dir = false; target = None }
listed_row (r.AliasName type_name copies stripe name target) =
    record { kind = type_name; redund = r.copies_text copies; striped = r.stripe_text stripe; sys = codes "N"; name = name; dir = false; target = Some target }

abbrev pub mounted_row : Bytes → Shape → r.GroupRow → GroupRow
mounted_row name shape row = record {
  state = codes "MOUNTED";
  kind = r.kind_text shape.kind;
  rebal = r.yes_or_no row.rebalancing;
  sector = shape.sector;
  block = 4096;
  au = shape.au;
  total = row.total;
  free = row.free;
  offline = row.offline;
  name = name;
}

abbrev pub disk_row : r.DiskRow → DiskRow
disk_row d = record { number = d.number; mode = mode_text d.mode; failgroup = d.failgroup; kind = r.disk_kind d.quorum; total = d.total; free = d.free; name = d.name }

abbrev pub template_row : Template → TemplateRow
template_row t = record { name = t.name; redund = r.copies_text t.copies; striped = r.stripe_text t.stripe; sys = r.yes_or_no t.system }

-- in folded order
abbrev pub attribute_rows : Shape → Attributes → List AttrRow
attribute_rows shape a =
    record { name = codes "au_size"; value = decimal shape.au }
    ∷ record { name = codes "compatible.advm"; value = r.version_text a.advm }
    ∷ record { name = codes "compatible.asm"; value = r.version_text a.asm }
    ∷ record { name = codes "compatible.rdbms"; value = r.version_text a.rdbms }
    ∷ record { name = codes "dir_blocks"; value = decimal shape.dir_blocks }
    ∷ record { name = codes "disk_repair_time"; value = decimal a.repair ++ codes "s" }
    ∷ record { name = codes "extent_step"; value = decimal shape.step }
    ∷ record { name = codes "sector_size"; value = decimal shape.sector }
    ∷ []

-- The lines of rows are those of what they show.
pub record RowsAreLines : Type 0 where
  pub listed : (long : Bool) (rows : List r.Listed) → ls_row_lines long (map listed_row rows) ≡ r.ls_lines long rows
  pub mounted : (name : Bytes) (shape : Shape) (row : r.GroupRow) → group_row_line (mounted_row name shape row) ≡ r.mounted_line name shape row
  pub dismounted : (row : GroupRow) → row.state ≡ codes "DISMOUNTED" → group_row_line row ≡ r.dismounted_line row.name
  pub disks : (rows : List r.DiskRow) → disk_row_lines (map disk_row rows) ≡ r.disk_lines rows
  pub templates : (rows : List Template) → template_row_lines (map template_row rows) ≡ r.template_lines rows
  pub attributes : (shape : Shape) (a : Attributes) → attribute_row_lines (attribute_rows shape a) ≡ r.attribute_lines shape a
