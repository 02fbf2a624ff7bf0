use Rattle.asm_grammar.proofs.Lowered.{from_fewer}
use Rattle.asm_grammar.proofs.laws.refuses_at_the_later.Goals as goal

pub returns : goal.returns
returns c = from_fewer
