use Rattle.std.proofs.Common.{sym, ◌∙◌, refl}
use Rattle.asm_grammar.specs.Argument.{Text}
use Rattle.asm_grammar.specs.Stages.{text_kind_of}
use Rattle.asm_grammar.proofs.Taken.{found, unfound, near_is, text_yes, text_no}
use Rattle.asm_grammar.proofs.arguments.try_text.Goals as goal

pub returns-then-is : goal.returns-then-is
returns-then-is c = (found (Text (text_kind_of c.args.kind)) c.args.place.rest.now _ _ _ _ c.split_run.ensures.rest c.split_run-2.ensures.front c.split_run-2.ensures.rest (text_yes (text_kind_of c.args.kind) c.split_run-2.result.0.now (sym c.judge_text-is.ensures.is ∙ c.if-is.true)), refl)

pub returns : goal.returns
returns c = (
  unfound (Text (text_kind_of c.args.kind)) c.args.place.rest.now _ _ c.split_run.ensures.rest c.split_run-2.ensures.front (text_no (text_kind_of c.args.kind) c.split_run-2.result.0.now (sym c.judge_text-is.ensures.is ∙ c.if-is.false)),
  c.missed.ensures.rest,
  near_is (Text (text_kind_of c.args.kind)) c.args.place.rest.now _ _ _ _ _ c.split_run.ensures.rest c.split_run-2.ensures.front c.judge_text-is.ensures.near c.missed.ensures.left,
)
