use Rattle.asm_formats.proofs.RowProofs.{items_row}
use Rattle.asm_formats.proofs.rows.items_row.Goals as goal

pub returns : goal.returns
returns c = items_row
