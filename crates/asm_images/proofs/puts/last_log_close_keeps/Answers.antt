use Rattle.asm_images.proofs.PutKeeps.{last_log_close_keeps}
use Rattle.asm_images.proofs.puts.last_log_close_keeps.Goals as goal

pub returns : goal.returns
returns c = λ id old groups completed begun sound h slot bytes k other inside header pair shut close. last_log_close_keeps id old groups completed begun sound h slot bytes inside header k other pair shut close
