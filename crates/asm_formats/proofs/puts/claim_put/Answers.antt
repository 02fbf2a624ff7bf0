use Rattle.asm_formats.proofs.Putting.{claim_put}
use Rattle.asm_formats.proofs.puts.claim_put.Goals as goal

pub returns : goal.returns
returns c = claim_put
