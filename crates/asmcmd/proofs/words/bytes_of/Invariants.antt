use Rattle.std.proofs.Common.{◌≡◌, ◌++◌, true, length}
use Rattle.std.specs.List.{list_all}
use Rattle.asm_grammar.specs.Argument.{hex_bytes, is_hex}
use Rattle.asmcmd.proofs.words.bytes_of.Given as goal

abbrev pub invariant-loop-rest : goal.invariant-loop-rest
invariant-loop-rest l = (l.bytes.items ++ hex_bytes l.rest ≡ hex_bytes l.digits) × (list_all is_hex l.rest ≡ true)

abbrev pub decreases-loop-rest : goal.decreases-loop-rest
decreases-loop-rest l = length l.rest
