use Rattle.std.proofs.Common.{◌≡◌, map, drop}
use Rattle.asm_grammar.specs.Bytes.{upper}
use Rattle.asm_grammar.specs.Word.{same_bytes}
use Rattle.asm_grammar.proofs.scan.is_key.Given as goal

abbrev pub invariant-loop-i : goal.invariant-loop-i
invariant-loop-i l = same_bytes (map upper (drop l.i l.bytes)) (drop l.i l.key) ≡ same_bytes (map upper l.bytes) l.key
