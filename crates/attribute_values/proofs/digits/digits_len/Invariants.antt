use Rattle.std.proofs.Common.{◌≡◌, length, ◌+◌, drop}
use Rattle.asm_grammar.specs.Bytes.{is_digit_byte, run_of}
use Rattle.attribute_values.proofs.digits.digits_len.Given as goal

abbrev pub invariant-loop-i : goal.invariant-loop-i
invariant-loop-i l = l.i + length (run_of is_digit_byte (drop l.i l.bytes)) ≡ length (run_of is_digit_byte l.bytes)
