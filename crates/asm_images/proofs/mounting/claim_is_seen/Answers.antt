use Rattle.asm_images.proofs.Mounts.{claim_is_seen}
use Rattle.asm_images.proofs.mounting.claim_is_seen.Goals as goal

pub returns : goal.returns
returns c = claim_is_seen
