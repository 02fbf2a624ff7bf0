use Rattle.asm_formats.proofs.Putting.{header_put}
use Rattle.asm_formats.proofs.puts.header_put.Goals as goal

pub returns : goal.returns
returns c = header_put
