use Rattle.asm_placement.proofs.Endings.{no_space_means}
use Rattle.asm_placement.proofs.ends.no_space_means.Goals as goal

pub returns : goal.returns
returns c = no_space_means
