use Rattle.asm_world.proofs.FirstWords as w
use Rattle.asm_world.proofs.language.statements_are_read_alone.Goals as goal

pub returns : goal.returns
returns c = w.statements_alone
