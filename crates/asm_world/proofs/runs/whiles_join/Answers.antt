use Rattle.asm_world.proofs.Histories as r
use Rattle.asm_world.proofs.runs.whiles_join.Goals as goal

pub returns : goal.returns
returns g c = λ s first rest. (λ p. r.while_joined _ _ s first rest p.0 p.1, λ p. (r.while_front _ _ s first rest p, λ all. r.while_rest _ _ s first rest p all))
