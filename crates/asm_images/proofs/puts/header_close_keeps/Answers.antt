use Rattle.asm_images.proofs.PutKeeps.{header_close_keeps}
use Rattle.asm_images.proofs.puts.header_close_keeps.Goals as goal

pub returns : goal.returns
returns c = header_close_keeps
