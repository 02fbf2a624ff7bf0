use Rattle.asm_formats.proofs.Checkpoints.{closed_may_close}
use Rattle.asm_formats.proofs.logs.closed_may_close.Goals as goal

pub returns : goal.returns
returns c = closed_may_close
