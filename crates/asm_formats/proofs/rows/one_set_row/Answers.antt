use Rattle.asm_formats.proofs.RowProofs.{one_set_row}
use Rattle.asm_formats.proofs.rows.one_set_row.Goals as goal

pub returns : goal.returns
returns c = one_set_row
