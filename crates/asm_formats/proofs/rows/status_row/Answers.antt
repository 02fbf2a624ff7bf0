use Rattle.asm_formats.proofs.RowProofs.{status_row}
use Rattle.asm_formats.proofs.rows.status_row.Goals as goal

pub returns : goal.returns
returns c = status_row
