use Rattle.asm_placement.proofs.Endings.{full_bears}
use Rattle.asm_placement.proofs.ends.full_bears.Goals as goal

pub returns : goal.returns
returns c = full_bears
