use Rattle.asm_images.proofs.Spans.{narrow_keeps}
use Rattle.asm_images.proofs.steps.narrow_keeps.Goals as goal

pub returns : goal.returns
returns c = narrow_keeps
