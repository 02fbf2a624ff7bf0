use Rattle.std.proofs.Common.{All}
use Rattle.bay_file.specs.OneLine.{IsShown}
use Rattle.bay_file.proofs.one_line.shown.Given as goal

abbrev pub invariant-loop-byte : goal.invariant-loop-byte
invariant-loop-byte l = All IsShown l.shown.items
