use Rattle.asm_formats.proofs.Framing.{claim_write}
use Rattle.asm_formats.proofs.frames.claim_write_keeps_others.Goals as goal

pub returns : goal.returns
returns c = λ old new at n same range. claim_write old new at n same range
