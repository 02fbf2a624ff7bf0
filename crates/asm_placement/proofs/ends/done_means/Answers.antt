use Rattle.asm_placement.proofs.Endings.{done_means}
use Rattle.asm_placement.proofs.ends.done_means.Goals as goal

pub returns : goal.returns
returns c = done_means
