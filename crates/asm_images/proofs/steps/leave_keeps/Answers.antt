use Rattle.asm_images.proofs.Joining.{leave_keeps}
use Rattle.asm_images.proofs.steps.leave_keeps.Goals as goal

pub returns : goal.returns
returns c = leave_keeps
