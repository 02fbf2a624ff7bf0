use Rattle.asm_formats.proofs.Checkpoints.{checkpoint_is_done}
use Rattle.asm_formats.proofs.logs.checkpoint_is_done.Goals as goal

pub returns : goal.returns
returns c = λ d old new p written. checkpoint_is_done d old new p written
