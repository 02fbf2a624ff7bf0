use Rattle.std.proofs.Common.{◌≡◌, map, take}
use Rattle.asmcmd.specs.Texts.{path_line}
use Rattle.asmcmd.proofs.listings.path_lines.Given as goal

abbrev pub invariant-loop-path : goal.invariant-loop-path
invariant-loop-path l = l.lines ≡ map path_line (take l.path-index l.paths)
