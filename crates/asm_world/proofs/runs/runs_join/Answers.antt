use Rattle.asm_world.proofs.Histories as r
use Rattle.asm_world.proofs.runs.runs_join.Goals as goal

pub returns : goal.returns
returns g c = λ s first rest. (λ p. r.joined _ s first rest p, λ p. r.split _ s first rest p)
