use Rattle.asm_world.proofs.RunRows as r
use Rattle.asm_world.proofs.runs.incarnation_rows.Goals as goal

pub returns : goal.returns
returns c = r.incarnations
