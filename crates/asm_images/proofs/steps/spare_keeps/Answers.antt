use Rattle.asm_images.proofs.Describing.{spare_keeps}
use Rattle.asm_images.proofs.steps.spare_keeps.Goals as goal

pub returns : goal.returns
returns c = spare_keeps
