use Rattle.std.proofs.Common.{◌≡◌, ◌+◌, drop}
use Rattle.asm_grammar.specs.Argument.{near_from, reached}
use Rattle.asm_grammar.specs.Stages.{stage_of}
use Rattle.asm_grammar.proofs.stage.take.Given as goal

abbrev pub invariant-loop-i : goal.invariant-loop-i
invariant-loop-i l = (l.i + near_from (stage_of l.now) (drop l.i l.word) ≡ near_from (stage_of l.fn.stage) l.word) × (reached (stage_of l.now) (drop l.i l.word) ≡ reached (stage_of l.fn.stage) l.word)
