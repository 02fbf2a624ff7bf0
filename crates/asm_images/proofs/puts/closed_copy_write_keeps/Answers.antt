use Rattle.asm_images.proofs.PutKeeps.{closed_copy_write_keeps}
use Rattle.asm_images.proofs.puts.closed_copy_write_keeps.Goals as goal

pub returns : goal.returns
returns c = λ id old groups completed begun sound h slot bytes inside header first second same. closed_copy_write_keeps id old groups completed begun sound h slot bytes inside header first second same
