use Rattle.asm_images.proofs.Bridges.{same_is_same}
use Rattle.asm_images.proofs.images.same_is_same.Goals as goal

pub returns : goal.returns
returns c = same_is_same
