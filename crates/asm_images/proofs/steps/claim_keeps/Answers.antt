use Rattle.asm_images.proofs.Claiming.{claim_keeps}
use Rattle.asm_images.proofs.steps.claim_keeps.Goals as goal

pub returns : goal.returns
returns c = claim_keeps
