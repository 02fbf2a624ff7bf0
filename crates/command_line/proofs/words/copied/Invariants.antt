use Rattle.std.proofs.Common.{◌≡◌, map, take}
use Rattle.std.specs.String.{string_bytes}
use Rattle.command_line.specs.Paths.{texts}
use Rattle.command_line.proofs.words.copied.Given as goal

abbrev pub invariant-loop-path : goal.invariant-loop-path
invariant-loop-path l = map string_bytes l.images.items ≡ texts (take l.path-index l.paths)
