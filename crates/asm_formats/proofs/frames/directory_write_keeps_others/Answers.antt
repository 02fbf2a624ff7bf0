use Rattle.asm_formats.proofs.Framing.{directory_write}
use Rattle.asm_formats.proofs.frames.directory_write_keeps_others.Goals as goal

pub returns : goal.returns
returns c = λ old new at n same low. directory_write old new at n same low
