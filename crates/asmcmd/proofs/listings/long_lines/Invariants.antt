use Rattle.std.proofs.Common.{◌≡◌, ◌∷◌, map, take}
use Rattle.std.specs.Prelude.{codes}
use Rattle.asmcmd.specs.Texts.{long_row_line}
use Rattle.asmcmd.proofs.listings.long_lines.Given as goal

abbrev pub invariant-loop-row : goal.invariant-loop-row
invariant-loop-row l = l.lines ≡ codes "Type Redund Striped Sys Name" ∷ map long_row_line (take l.row-index l.rows)
