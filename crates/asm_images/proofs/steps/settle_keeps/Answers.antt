use Rattle.asm_images.proofs.Spans.{settle_keeps}
use Rattle.asm_images.proofs.steps.settle_keeps.Goals as goal

pub returns : goal.returns
returns c = settle_keeps
