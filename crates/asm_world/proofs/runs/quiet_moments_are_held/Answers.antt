use Rattle.asm_world.proofs.Histories as r
use Rattle.asm_world.proofs.runs.quiet_moments_are_held.Goals as goal

pub returns : goal.returns
returns g c = λ s quiet m image id run q from to left. r.quiet_held _ s quiet m image id run q from to left
