use Rattle.asm_world.proofs.RunRows as r
use Rattle.asm_world.proofs.runs.wait_rows.Goals as goal

pub returns : goal.returns
returns c = r.wait_rows
