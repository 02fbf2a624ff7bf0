use Rattle.std.proofs.Common.{sym, ◌∙◌}
use Rattle.asm_grammar.specs.Argument.{HexBytes}
use Rattle.asm_grammar.proofs.Taken.{given, refused, hex_yes, hex_no, hex_digits}
use Rattle.asm_grammar.proofs.arguments.hex_word.Goals as goal

pub returns-then-is : goal.returns-then-is
returns-then-is c = record {
  digits = hex_digits c.split_run-2.result.0.now (sym c.judge_hex-is.ensures.is ∙ c.if-is.true);
  gives = given HexBytes c.args.place.rest.now _ _ _ _ _ c.split_run.ensures.rest c.split_run-2.ensures.front c.split_run-2.ensures.rest (hex_yes _ (sym c.judge_hex-is.ensures.is ∙ c.if-is.true));
}

pub returns : goal.returns
returns c = record {
  digits = tt;
  gives = refused HexBytes c.args.place.rest.now _ _ _ _ _ c.split_run.ensures.rest c.split_run-2.ensures.front c.judge_hex-is.ensures.near c.missed.ensures.left (hex_no c.split_run-2.result.0.now (sym c.judge_hex-is.ensures.is ∙ c.if-is.false));
}
