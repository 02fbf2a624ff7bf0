use Rattle.asm_formats.proofs.Framing.{closed_write}
use Rattle.asm_formats.proofs.frames.closed_copy_write_keeps_metadata.Goals as goal

pub returns : goal.returns
returns c = closed_write
