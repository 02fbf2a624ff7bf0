use Rattle.asm_world.proofs.Histories as r
use Rattle.asm_world.proofs.runs.premises_join.Goals as goal

pub returns : goal.returns
returns g c = λ first rest. (λ p. r.moves_joined _ first rest p.0 p.1, λ p. r.moves_split _ first rest p)
