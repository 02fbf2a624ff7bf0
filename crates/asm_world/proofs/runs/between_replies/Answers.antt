use Rattle.asm_world.proofs.Histories as r
use Rattle.asm_world.proofs.runs.between_replies.Goals as goal

pub returns : goal.returns
returns g c = λ s t quiet found text reply grows run q move m image id from to left. r.between _ s t quiet found text reply grows run q move m image id from to left
