use Rattle.asm_images.proofs.PutKeeps.{header_put_keeps}
use Rattle.asm_images.proofs.puts.header_put_keeps.Goals as goal

pub returns : goal.returns
returns c = header_put_keeps
