use Rattle.asm_world.proofs.EditLemmas as m
use Rattle.asm_world.proofs.edits.known_bytes_are_read.Goals as goal

pub returns : goal.returns
returns c = m.known_read
