use Rattle.serving.proofs.OnDisks.{making, idling}
use Rattle.serving.proofs.laws.disks_are_made.Goals as goal

pub returns : goal.returns
returns g c = record {
  made = making (g.B.Bay.state c.args.start.now) (g.B.Bay.state c.args.end.now);
  idle = idling (g.B.Bay.state c.args.start.now) (g.B.Bay.state c.args.end.now);
}
