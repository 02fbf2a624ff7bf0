use Rattle.std.proofs.Common.{sym, ap, ◌∙◌}
use Rattle.asm_grammar.specs.Word.{number_of_text}
use Rattle.attribute_values.specs.Sizes.{size_behind}
use Rattle.attribute_values.proofs.NumberLaws.{size_is}
use Rattle.attribute_values.proofs.number.size_of.Goals as goal

pub returns-in-Some : goal.returns-in-Some
returns-in-Some c =
    size_is c.args.text.now c.in-Some.number c.size_behind.result (sym c.in-Some.is ∙ c.number_of.ensures ∙ ap number_of_text c.split_digits.ensures.front)
    (c.size_behind.ensures ∙ ap (size_behind c.in-Some.number) c.split_digits.ensures.rest)
