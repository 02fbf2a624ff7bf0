use Rattle.asm_images.proofs.Bridges.{made_is_zeros}
use Rattle.asm_images.proofs.images.made_is_zeros.Goals as goal

pub returns : goal.returns
returns c = made_is_zeros
