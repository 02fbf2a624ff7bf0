use Rattle.asm_world.proofs.Statements as s
use Rattle.asm_world.proofs.language.written_is_said.Goals as goal

pub returns : goal.returns
returns c = s.written_is_said
