use Rattle.asm_formats.proofs.RowProofs.{claim_row}
use Rattle.asm_formats.proofs.rows.claim_row.Goals as goal

pub returns : goal.returns
returns c = claim_row
