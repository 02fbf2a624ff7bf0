use Rattle.asm_formats.proofs.RowProofs.{two_sets_row}
use Rattle.asm_formats.proofs.rows.two_sets_row.Goals as goal

pub returns : goal.returns
returns c = two_sets_row
