use Rattle.asm_images.proofs.Joining.{outside_keeps}
use Rattle.asm_images.proofs.steps.outside_keeps.Goals as goal

pub returns : goal.returns
returns c = outside_keeps
