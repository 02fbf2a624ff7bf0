use Rattle.asm_formats.proofs.Framing.{user_bytes_are_spare}
use Rattle.asm_formats.proofs.frames.user_bytes_are_spare.Goals as goal

pub returns : goal.returns
returns c = user_bytes_are_spare
