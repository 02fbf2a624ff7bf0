use Rattle.asm_images.proofs.Recording.{begin_keeps}
use Rattle.asm_images.proofs.steps.begin_keeps.Goals as goal

pub returns : goal.returns
returns c = begin_keeps
