use Rattle.asm_images.proofs.RowProofs.{directory_rows}
use Rattle.asm_images.proofs.rows.directory_rows.Goals as goal

pub returns : goal.returns
returns c = directory_rows
