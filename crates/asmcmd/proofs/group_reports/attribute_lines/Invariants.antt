use Rattle.std.proofs.Common.{◌≡◌, ◌∷◌, map, take}
use Rattle.std.specs.Prelude.{codes}
use Rattle.asmcmd.specs.Texts.{attribute_line}
use Rattle.asmcmd.proofs.group_reports.attribute_lines.Given as goal

abbrev pub invariant-loop-row : goal.invariant-loop-row
invariant-loop-row l = l.lines ≡ codes "Name Value" ∷ map attribute_line (take l.row-index l.rows)
