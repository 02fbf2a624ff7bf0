use Rattle.asm_formats.proofs.RowProofs.{sets_row}
use Rattle.asm_formats.proofs.rows.sets_row.Goals as goal

pub returns : goal.returns
returns c = sets_row
