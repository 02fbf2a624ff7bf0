-- The kinds of bytes that stand together.
use Rattle.std.specs.Prelude.{ℕ, Bool}
use Rattle.asm_grammar.specs.Bytes.{is_blank, is_space, is_filled, is_word, is_digit_byte, is_text_byte}
use Rattle.asm_grammar.specs.declared.scan.Run.{Run}
use Rattle.asm_grammar.specs.declared.scan.Run.TheVariants.{Blanks, Spaces, Filled, Word, Digits, Text}

abbrev pub tests : Run → ℕ → Bool
tests Blanks b = is_blank b
tests Spaces b = is_space b
tests Filled b = is_filled b
tests Word b = is_word b
tests Digits b = is_digit_byte b
tests Text b = is_text_byte b
