use Rattle.asm_images.proofs.SpanCells.{files_are_put}
use Rattle.asm_images.proofs.cells.files_are_put.Goals as goal

pub returns : goal.returns
returns c = files_are_put
