use Rattle.asm_images.proofs.SpanCells.{cell_is_put}
use Rattle.asm_images.proofs.cells.cell_is_put.Goals as goal

pub returns : goal.returns
returns c = cell_is_put
