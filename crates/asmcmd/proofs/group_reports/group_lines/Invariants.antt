use Rattle.std.proofs.Common.{◌≡◌, ◌∷◌, map, take}
use Rattle.asm_world.specs.Reports.{group_head}
use Rattle.asmcmd.specs.Texts.{group_row_line}
use Rattle.asmcmd.proofs.group_reports.group_lines.Given as goal

abbrev pub invariant-loop-row : goal.invariant-loop-row
invariant-loop-row l = l.lines ≡ group_head ∷ map group_row_line (take l.row-index l.rows)
