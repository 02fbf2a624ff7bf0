use Rattle.std.proofs.Common.{sym, ◌∙◌}
use Rattle.asm_grammar.specs.Argument.{PlainNumber}
use Rattle.asm_grammar.proofs.Taken.{given, refused}
use Rattle.asm_grammar.proofs.arguments.number_word.Goals as goal

pub returns-in-Some : goal.returns-in-Some
returns-in-Some c = given PlainNumber c.args.place.rest.now _ _ _ _ _ c.split_run.ensures.rest c.split_run-2.ensures.front c.split_run-2.ensures.rest (sym c.judge_number-number.ensures.says ∙ c.in-Some.is)

pub returns-in-None : goal.returns-in-None
returns-in-None c = refused PlainNumber c.args.place.rest.now _ _ _ _ _ c.split_run.ensures.rest c.split_run-2.ensures.front c.judge_number-number.ensures.near c.missed.ensures.left (sym c.judge_number-number.ensures.says ∙ c.in-None.is)
