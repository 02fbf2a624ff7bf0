use Rattle.asm_images.proofs.Moving.{rows_keep}
use Rattle.asm_images.proofs.steps.rows_keep.Goals as goal

pub returns : goal.returns
returns c = rows_keep
