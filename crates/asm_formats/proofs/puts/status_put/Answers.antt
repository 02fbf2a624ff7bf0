use Rattle.asm_formats.proofs.Putting.{status_put}
use Rattle.asm_formats.proofs.puts.status_put.Goals as goal

pub returns : goal.returns
returns c = status_put
