use Rattle.group_engine.proofs.Causes.{dismount_on}
use Rattle.group_engine.proofs.frames.causes_join.Goals as goal

pub returns : goal.returns
returns g c = λ one two three keeps mounted by why. dismount_on keeps (g.B.Bay.state c.args.end.now) three mounted by why
