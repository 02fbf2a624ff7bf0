use Rattle.asm_world.proofs.Statements as s
use Rattle.asm_world.proofs.language.refused_at_longest_front.Goals as goal

pub returns : goal.returns
returns c = s.refused
