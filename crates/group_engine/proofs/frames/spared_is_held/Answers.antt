use Rattle.group_engine.proofs.Elsewhere.{spared_is_held}
use Rattle.group_engine.proofs.frames.spared_is_held.Goals as goal

pub returns : goal.returns
returns c = spared_is_held
