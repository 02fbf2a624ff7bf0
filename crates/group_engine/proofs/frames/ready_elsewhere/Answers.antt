use Rattle.group_engine.proofs.Elsewhere.{ready_elsewhere}
use Rattle.group_engine.proofs.frames.ready_elsewhere.Goals as goal

pub returns : goal.returns
returns g c = λ m whole ready attached run spares. ready_elsewhere m whole ready attached run spares
