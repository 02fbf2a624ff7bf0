use Rattle.std.proofs.Common.{◌≡◌, ◌+◌, drop}
use Rattle.asm_grammar.specs.Word.{near_count, near_count_value}
use Rattle.asm_grammar.proofs.scan.count_prefix.Given as goal

abbrev pub invariant-loop-i : goal.invariant-loop-i
invariant-loop-i l = (l.i + near_count l.number (drop l.i l.text) ≡ near_count 0 l.text) × (near_count_value l.number (drop l.i l.text) ≡ near_count_value 0 l.text)
