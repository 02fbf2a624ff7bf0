use Rattle.asm_placement.proofs.Endings.{lost_means}
use Rattle.asm_placement.proofs.ends.lost_means.Goals as goal

pub returns : goal.returns
returns c = lost_means
