use Rattle.asm_formats.proofs.RowProofs.{header_row}
use Rattle.asm_formats.proofs.rows.header_row.Goals as goal

pub returns : goal.returns
returns c = header_row
