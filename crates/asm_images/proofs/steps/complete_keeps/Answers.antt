use Rattle.asm_images.proofs.Completing.{complete_keeps}
use Rattle.asm_images.proofs.steps.complete_keeps.Goals as goal

pub returns : goal.returns
returns c = complete_keeps
