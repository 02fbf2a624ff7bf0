use Rattle.asm_world.proofs.Canon as n
use Rattle.asm_world.proofs.language.said_is_written.Goals as goal

pub returns : goal.returns
returns c = n.said_is_written
