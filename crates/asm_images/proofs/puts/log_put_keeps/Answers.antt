use Rattle.asm_images.proofs.PutKeeps.{log_put_keeps}
use Rattle.asm_images.proofs.puts.log_put_keeps.Goals as goal

pub returns : goal.returns
returns c = λ id old groups completed begun sound h log slot bytes k other inside header put decodes known. log_put_keeps id old groups completed begun sound h slot bytes inside header log k other put decodes known
