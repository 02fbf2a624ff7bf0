use Rattle.asm_images.proofs.Moving.{step_keeps}
use Rattle.asm_images.proofs.steps.step_keeps.Goals as goal

pub returns : goal.returns
returns c = step_keeps
