use Rattle.asm_world.proofs.Commands as m
use Rattle.asm_world.proofs.language.commands_are_found.Goals as goal

pub returns : goal.returns
returns c = record { statements = m.statements_found; verbs = m.verbs_found }
