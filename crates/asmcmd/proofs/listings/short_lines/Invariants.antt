use Rattle.std.proofs.Common.{◌≡◌, map, take}
use Rattle.asmcmd.specs.Texts.{short_row_line}
use Rattle.asmcmd.proofs.listings.short_lines.Given as goal

abbrev pub invariant-loop-row : goal.invariant-loop-row
invariant-loop-row l = l.lines ≡ map short_row_line (take l.row-index l.rows)
