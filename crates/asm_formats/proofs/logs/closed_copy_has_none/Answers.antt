use Rattle.asm_formats.proofs.Checkpoints.{closed_copy}
use Rattle.asm_formats.proofs.logs.closed_copy_has_none.Goals as goal

pub returns : goal.returns
returns c = closed_copy
