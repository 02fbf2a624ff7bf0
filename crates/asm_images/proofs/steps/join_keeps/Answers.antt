use Rattle.asm_images.proofs.Joining.{join_keeps}
use Rattle.asm_images.proofs.steps.join_keeps.Goals as goal

pub returns : goal.returns
returns c = join_keeps
