use Rattle.asm_images.proofs.Mounts.{majority_is_claimed}
use Rattle.asm_images.proofs.mounting.majority_is_claimed.Goals as goal

pub returns : goal.returns
returns c = majority_is_claimed
