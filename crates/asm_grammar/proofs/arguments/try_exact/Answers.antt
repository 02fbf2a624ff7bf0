use Rattle.std.proofs.Common.{sym, ◌∙◌, refl}
use Rattle.asm_grammar.specs.Argument.{Exact}
use Rattle.asm_grammar.proofs.Taken.{found, unfound, near_is, exact_yes, exact_no}
use Rattle.asm_grammar.proofs.arguments.try_exact.Goals as goal

pub returns-then-is : goal.returns-then-is
returns-then-is c = (found (Exact c.args.key.now) c.args.place.rest.now _ _ _ _ c.split_run.ensures.rest c.split_run-2.ensures.front c.split_run-2.ensures.rest (exact_yes c.args.key.now c.split_run-2.result.0.now (sym c.judge_exact-is.ensures.is ∙ c.if-is.true)), refl)

pub returns : goal.returns
returns c = (
  unfound (Exact c.args.key.now) c.args.place.rest.now _ _ c.split_run.ensures.rest c.split_run-2.ensures.front (exact_no c.args.key.now c.split_run-2.result.0.now (sym c.judge_exact-is.ensures.is ∙ c.if-is.false)),
  c.missed.ensures.rest,
  near_is (Exact c.args.key.now) c.args.place.rest.now _ _ _ _ _ c.split_run.ensures.rest c.split_run-2.ensures.front c.judge_exact-is.ensures.near c.missed.ensures.left,
)
