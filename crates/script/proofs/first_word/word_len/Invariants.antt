use Rattle.std.proofs.Common.{◌≡◌, ◌+◌, drop}
use Rattle.std.specs.List.{prefix_len}
use Rattle.asm_grammar.specs.FirstWord.{is_first_word_byte}
use Rattle.script.proofs.first_word.word_len.Given as goal

abbrev pub invariant-loop-at : goal.invariant-loop-at
invariant-loop-at l = l.at + prefix_len is_first_word_byte (drop l.at l.bytes) ≡ prefix_len is_first_word_byte l.bytes
