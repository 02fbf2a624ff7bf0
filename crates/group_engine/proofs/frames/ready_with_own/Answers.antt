use Rattle.group_engine.proofs.Elsewhere.{ready_with_own}
use Rattle.group_engine.proofs.frames.ready_with_own.Goals as goal

pub returns : goal.returns
returns g c = λ m whole ready own run spares. ready_with_own m whole ready own run spares
