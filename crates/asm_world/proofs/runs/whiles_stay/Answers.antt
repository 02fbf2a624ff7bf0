use Rattle.asm_world.proofs.Histories as r
use Rattle.asm_world.proofs.runs.whiles_stay.Goals as goal

pub returns : goal.returns
returns g c = λ s history past rise p. r.while_past _ _ _ s history past rise p
