use Rattle.asm_world.proofs.Memory.{stays, no_lines}
use Rattle.asm_world.proofs.runs.memory_is_short_anywhere.Goals as goal

pub returns : goal.returns
returns c = λ below w command. record { stays = stays below w command; no_lines = no_lines below w command }
