use Rattle.asm_placement.proofs.Falling.{work_falls}
use Rattle.asm_placement.proofs.work.work_falls.Goals as goal

pub returns : goal.returns
returns c = work_falls
