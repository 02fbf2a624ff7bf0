use Rattle.group_engine.proofs.Causes.{calls_keep}
use Rattle.group_engine.proofs.frames.calls_keep.Goals as goal

pub returns : goal.returns
returns g c = λ one two three first second. calls_keep first second
