use Rattle.asm_world.proofs.Wholes as m
use Rattle.asm_world.proofs.edits.done_keeps_whole.Goals as goal

pub returns : goal.returns
returns c = m.done_keeps_whole
