use Rattle.asm_images.proofs.RowProofs.{enough_rows}
use Rattle.asm_images.proofs.rows.enough_rows.Goals as goal

pub returns : goal.returns
returns c = enough_rows
