use Rattle.asm_formats.proofs.Framing.{header_write}
use Rattle.asm_formats.proofs.frames.header_write_keeps_others.Goals as goal

pub returns : goal.returns
returns c = λ old new at n same range. header_write old new at n same range
