-- The arguments of a refusal as they are printed.
use Rattle.std.specs.Prelude.{List, [], ◌∷◌}
use Rattle.std.specs.Fmt.{decimal}
use Rattle.asm_group.specs.Names.{Bytes}
use Rattle.refusal_lines.specs.declared.refusal_text.Argument.{Argument}
use Rattle.refusal_lines.specs.declared.refusal_text.Argument.TheVariants as argument

-- the words of an argument: one or none
abbrev pub argument_words : Argument → List Bytes
argument_words argument.Nothing = []
argument_words (argument.Text text) = text.now ∷ []
argument_words (argument.Number n) = decimal n ∷ []
