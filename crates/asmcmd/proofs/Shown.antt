-- The lines of rows are those of what they show.
use Rattle.std.proofs.Common.{◌≡◌, ℕ, Bool, true, false, List, [], ◌∷◌, ap, refl, sym, ◌∙◌}
use Rattle.std.specs.Prelude.{map, codes}
use Rattle.std.specs.Fmt.{digits}
use Rattle.asm_group.specs.Group.{Template}
use Rattle.asm_group.specs.Names.{Bytes}
use Rattle.asm_group.specs.Shape.{Shape}
use Rattle.asm_world.specs.Reports as r
use Rattle.asmcmd.specs.Texts.{short_row_line, long_row_line, ls_row_lines, group_row_line, disk_row_line, template_row_line, listed_row, mounted_row, disk_row, template_row, RowsAreLines}
use Rattle.asmcmd.specs.declared.rows.GroupRow.{GroupRow}

short : (l : r.Listed) → short_row_line (listed_row l) ≡ r.short_line l
short (r.Directory name) = refl
short (r.ListedSystemName type_name copies stripe name) = refl
short (r.AliasName type_name copies stripe name target) = refl

long : (l : r.Listed) → long_row_line (listed_row l) ≡ r.long_line l
long (r.Directory name) = refl
long (r.ListedSystemName type_name copies stripe name) = refl
long (r.AliasName type_name copies stripe name target) = refl

mapped : {X Y : Type 0} (row : X → Y) (line : Y → Bytes) (shown : X → Bytes) → ((x : X) → line (row x) ≡ shown x) → (xs : List X) → map line (map row xs) ≡ map shown xs
mapped row line shown same [] = refl
mapped row line shown same (x ∷ xs) = rw (same x, mapped row line shown same xs) refl

listed : (is_long : Bool) (rows : List r.Listed) → ls_row_lines is_long (map listed_row rows) ≡ r.ls_lines is_long rows
listed false rows = mapped listed_row short_row_line r.short_line short rows
listed true rows = ap (λ lines. codes "Type Redund Striped Sys Name" ∷ lines) (mapped listed_row long_row_line r.long_line long rows)

dismounted : (row : GroupRow) → row.state ≡ codes "DISMOUNTED" → group_row_line row ≡ r.dismounted_line row.name
dismounted row e = rw e refl

mounted : (name : Bytes) (shape : Shape) (row : r.GroupRow) → group_row_line (mounted_row name shape row) ≡ r.mounted_line name shape row
unfolding digits
mounted name shape row = refl

pub rows_are_lines : RowsAreLines
rows_are_lines = record {
  listed = listed;
  mounted = mounted;
  dismounted = dismounted;
  disks = λ rows. ap (λ lines. codes "Number Mode Failgroup Kind Total Free Name" ∷ lines) (mapped disk_row disk_row_line r.disk_line (λ d. refl) rows);
  templates = λ rows. ap (λ lines. codes "Name Redund Striped Sys" ∷ lines) (mapped template_row template_row_line r.template_line (λ t. refl) rows);
  attributes = λ shape a. refl;
}
