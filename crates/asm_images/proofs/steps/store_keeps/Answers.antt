use Rattle.asm_images.proofs.Recording.{store_keeps}
use Rattle.asm_images.proofs.steps.store_keeps.Goals as goal

pub returns : goal.returns
returns c = store_keeps
