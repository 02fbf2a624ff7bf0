use Rattle.asm_images.proofs.Spans.{piece_keeps}
use Rattle.asm_images.proofs.steps.piece_keeps.Goals as goal

pub returns : goal.returns
returns c = piece_keeps
