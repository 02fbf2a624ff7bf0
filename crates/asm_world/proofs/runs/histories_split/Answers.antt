use Rattle.asm_world.proofs.Histories as r
use Rattle.asm_world.proofs.runs.histories_split.Goals as goal

pub returns : goal.returns
returns g c = λ h. r.split_at_answer h
