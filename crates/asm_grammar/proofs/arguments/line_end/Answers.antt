use Rattle.asm_grammar.proofs.Taken.{line_open}
use Rattle.asm_grammar.proofs.arguments.line_end.Goals as goal

pub returns-in-len1-up : goal.returns-in-len1-up
returns-in-len1-up c = line_open c.args.place.rest.now c.split_run.result.1.now _ _ c.split_run.ensures.rest c.in-len1-up.len_at_least c.missed.ensures.left
