use Rattle.asm_world.proofs.Histories as r
use Rattle.asm_world.proofs.runs.quiet_moves_leave_groups.Goals as goal

pub returns : goal.returns
returns g c = λ s quiet run q. r.quiet_leaves _ s quiet run q
