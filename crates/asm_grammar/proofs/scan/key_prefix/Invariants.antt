use Rattle.std.proofs.Common.{◌≡◌, ◌+◌, map, drop}
use Rattle.asm_grammar.specs.Bytes.{upper, common}
use Rattle.asm_grammar.proofs.scan.key_prefix.Given as goal

abbrev pub invariant-loop-i : goal.invariant-loop-i
invariant-loop-i l = l.i + common (drop l.i l.key) (map upper (drop l.i l.bytes)) ≡ common l.key (map upper l.bytes)
