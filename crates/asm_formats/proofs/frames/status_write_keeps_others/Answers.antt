use Rattle.asm_formats.proofs.Framing.{status_write}
use Rattle.asm_formats.proofs.frames.status_write_keeps_others.Goals as goal

pub returns : goal.returns
returns c = λ old new at n same range. status_write old new at n same range
