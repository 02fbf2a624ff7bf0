use Rattle.asm_world.proofs.Histories as r
use Rattle.asm_world.proofs.runs.marks_rise.Goals as goal

pub returns : goal.returns
returns g c = λ s history run. r.marks_rise _ s history run
