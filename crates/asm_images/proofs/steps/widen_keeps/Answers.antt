use Rattle.asm_images.proofs.Spans.{widen_keeps}
use Rattle.asm_images.proofs.steps.widen_keeps.Goals as goal

pub returns : goal.returns
returns c = widen_keeps
