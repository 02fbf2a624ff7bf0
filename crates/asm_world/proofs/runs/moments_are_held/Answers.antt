use Rattle.asm_world.proofs.Histories as r
use Rattle.asm_world.proofs.runs.moments_are_held.Goals as goal

pub returns : goal.returns
returns g c = λ s first rest m image run from to left. r.moments _ s first rest m image run from to left
