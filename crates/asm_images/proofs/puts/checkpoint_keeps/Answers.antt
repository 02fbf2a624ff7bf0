use Rattle.asm_images.proofs.PutKeeps.{checkpoint_keeps_image}
use Rattle.asm_images.proofs.puts.checkpoint_keeps.Goals as goal

pub returns : goal.returns
returns c = λ id old groups completed begun sound h slot bytes inside header check. checkpoint_keeps_image id old groups completed begun sound h slot bytes inside header check
