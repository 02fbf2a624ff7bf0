use Rattle.asm_world.proofs.Histories as r
use Rattle.asm_world.proofs.runs.runs_call_more.Goals as goal

pub returns : goal.returns
returns g c = λ s history run. r.calls_rise _ s history run
