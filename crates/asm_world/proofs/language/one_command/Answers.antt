use Rattle.asm_world.proofs.Commands as m
use Rattle.asm_world.proofs.language.one_command.Goals as goal

pub returns : goal.returns
returns c = m.one_command
