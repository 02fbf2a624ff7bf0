use Rattle.asm_formats.proofs.RowProofs.{refused_items_row}
use Rattle.asm_formats.proofs.rows.refused_items_row.Goals as goal

pub returns : goal.returns
returns c = refused_items_row
