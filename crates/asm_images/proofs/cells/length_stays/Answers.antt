use Rattle.asm_images.proofs.SpanCells.{length_stays}
use Rattle.asm_images.proofs.cells.length_stays.Goals as goal

pub returns : goal.returns
returns c = length_stays
