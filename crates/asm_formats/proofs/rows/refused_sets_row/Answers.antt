use Rattle.asm_formats.proofs.RowProofs.{refused_sets_row}
use Rattle.asm_formats.proofs.rows.refused_sets_row.Goals as goal

pub returns : goal.returns
returns c = refused_sets_row
