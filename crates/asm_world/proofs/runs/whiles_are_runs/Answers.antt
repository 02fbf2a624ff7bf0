use Rattle.asm_world.proofs.Histories as r
use Rattle.asm_world.proofs.runs.whiles_are_runs.Goals as goal

pub returns : goal.returns
returns g c = λ s history all. (λ p. r.while_run _ _ s history all p, λ p. r.run_while _ _ s history p)
