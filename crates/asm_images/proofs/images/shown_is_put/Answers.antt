use Rattle.asm_images.proofs.Bridges.{shown_is_put}
use Rattle.asm_images.proofs.images.shown_is_put.Goals as goal

pub returns : goal.returns
returns c = shown_is_put
