use Rattle.std.proofs.Common.{arith}
use Rattle.std.proofs.lemmas.Result.{IfOk-weaker}
use Rattle.asm_group.specs.Refusal.{refusal_words}
use Rattle.refusal_lines.specs.Refusals.{meaning_of}
use Rattle.refusal_lines.specs.RefusalText.{argument_words}
use Rattle.refusal_lines.proofs.RefusalTexts.{line_is}
use Rattle.refusal_lines.proofs.refusal.Refusal.line.Goals as goal

-- src/refusal_text.rt:30:5
pub returns : goal.returns
returns c = IfOk-weaker c.with-4.result _ _ (λ text e. line_is c.number_and_name-number.result.0 c.number_and_name-number.result.1.now (argument_words c.arguments.result.0) (argument_words c.arguments.result.1) (refusal_words (meaning_of (λ _. c.args.disk.now) c.args.self.now)) (c.number_and_name-number.ensures (λ _. c.args.disk.now)) c.arguments.ensures (grind arith) c.in_ok-line-2.ensures c.in_ok-line-3.ensures c.in_ok-with.ensures e) c.with-4.ensures
