use Rattle.asm_images.proofs.PutKeeps.{claim_put_keeps}
use Rattle.asm_images.proofs.puts.claim_put_keeps.Goals as goal

pub returns : goal.returns
returns c = claim_put_keeps
