use Rattle.asm_world.proofs.Commands as m
use Rattle.asm_world.proofs.language.unreadable_at_longest_front.Goals as goal

pub returns : goal.returns
returns c = m.longest
