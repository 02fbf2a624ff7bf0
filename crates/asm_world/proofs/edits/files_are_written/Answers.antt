use Rattle.asm_world.proofs.EditLemmas as m
use Rattle.asm_world.proofs.edits.files_are_written.Goals as goal

pub returns : goal.returns
returns c = record { names = m.names; others = m.others; read = m.read; before = m.before; after = m.after; size = m.size }
