use Rattle.group_engine.proofs.Beside.{others_are_spared}
use Rattle.group_engine.proofs.frames.others_are_spared.Goals as goal

pub returns : goal.returns
returns g c = λ n m new groups group kept mounts keeps over.
    others_are_spared (g.B.Bay.state c.args.start.now) (g.B.Bay.state c.args.end.now) (g.met.B.Bay.sound c.args.start.now) (g.met.B.Bay.sound c.args.end.now) n m new groups group kept mounts keeps over
