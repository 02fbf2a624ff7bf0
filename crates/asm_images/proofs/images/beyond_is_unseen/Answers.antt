use Rattle.asm_images.proofs.Bridges.{beyond_is_unseen}
use Rattle.asm_images.proofs.images.beyond_is_unseen.Goals as goal

pub returns : goal.returns
returns c = beyond_is_unseen
