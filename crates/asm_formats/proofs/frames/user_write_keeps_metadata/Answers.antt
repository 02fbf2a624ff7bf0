use Rattle.asm_formats.proofs.Framing.{user_write}
use Rattle.asm_formats.proofs.frames.user_write_keeps_metadata.Goals as goal

pub returns : goal.returns
returns c = user_write
