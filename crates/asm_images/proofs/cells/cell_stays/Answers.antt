use Rattle.asm_images.proofs.SpanCells.{cell_stays}
use Rattle.asm_images.proofs.cells.cell_stays.Goals as goal

pub returns : goal.returns
returns c = cell_stays
