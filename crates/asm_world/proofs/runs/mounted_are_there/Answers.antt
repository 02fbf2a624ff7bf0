use Rattle.asm_world.proofs.Histories as r
use Rattle.asm_world.proofs.runs.mounted_are_there.Goals as goal

pub returns : goal.returns
returns g c = λ s before rest e m image run from to left id. r.mounted_are_there _ s before rest e m image run from to left id
