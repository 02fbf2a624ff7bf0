use Rattle.std.proofs.Common.{◌≡◌, ◌+◌, drop}
use Rattle.asm_grammar.specs.Word.{near_size, near_size_value}
use Rattle.asm_grammar.proofs.scan.size_prefix.Given as goal

abbrev pub invariant-loop-i : goal.invariant-loop-i
invariant-loop-i l = (l.i + near_size l.size (drop l.i l.text) ≡ near_size 0 l.text) × (near_size_value l.size (drop l.i l.text) ≡ near_size_value 0 l.text)
