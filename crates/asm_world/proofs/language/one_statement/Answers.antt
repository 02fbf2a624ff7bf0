use Rattle.asm_world.proofs.Statements as s
use Rattle.asm_world.proofs.language.one_statement.Goals as goal

pub returns : goal.returns
returns c = s.one_statement
