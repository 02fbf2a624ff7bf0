use Rattle.std.proofs.Common.{◌≡◌, ◌∷◌, map, take}
use Rattle.std.specs.Prelude.{codes}
use Rattle.asmcmd.specs.Texts.{template_row_line}
use Rattle.asmcmd.proofs.group_reports.template_lines.Given as goal

abbrev pub invariant-loop-row : goal.invariant-loop-row
invariant-loop-row l = l.lines ≡ codes "Name Redund Striped Sys" ∷ map template_row_line (take l.row-index l.rows)
