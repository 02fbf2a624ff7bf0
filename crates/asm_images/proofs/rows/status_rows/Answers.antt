use Rattle.asm_images.proofs.RowProofs.{status_rows}
use Rattle.asm_images.proofs.rows.status_rows.Goals as goal

pub returns : goal.returns
returns c = status_rows
