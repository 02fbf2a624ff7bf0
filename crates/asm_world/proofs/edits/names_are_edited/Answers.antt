use Rattle.asm_world.proofs.EditLemmas as m
use Rattle.asm_world.proofs.edits.names_are_edited.Goals as goal

pub returns : goal.returns
returns c = record { make = m.make; drop_dir = m.drop_dir; alias = m.add_alias; drop_alias = m.drop_alias }
