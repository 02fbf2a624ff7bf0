use Rattle.std.proofs.Common.{◌≡◌, ◌+◌, drop}
use Rattle.asm_grammar.specs.Argument.{Rest, near_from}
use Rattle.asm_grammar.proofs.arguments.exact_len.Given as goal

abbrev pub invariant-loop-i : goal.invariant-loop-i
invariant-loop-i l = l.i + near_from (Rest (drop l.i l.key)) (drop l.i l.bytes) ≡ near_from (Rest l.key) l.bytes
