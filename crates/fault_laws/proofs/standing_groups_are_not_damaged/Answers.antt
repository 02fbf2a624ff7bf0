use Rattle.fault_laws.proofs.Bodies.{no_stranger, whole_bodies}
use Rattle.fault_laws.proofs.Copies.{whole_copies}
use Rattle.fault_laws.proofs.standing_groups_are_not_damaged.Goals as goal

pub returns : goal.returns
returns g c = record {
  bodies = whole_bodies (g.B.Bay.state c.args.start.now) (g.B.Bay.state c.args.end.now);
  copies = whole_copies (g.B.Bay.state c.args.start.now) (g.B.Bay.state c.args.end.now) (g.met.B.Bay.sound c.args.start.now);
  strangers = no_stranger (g.B.Bay.state c.args.end.now);
}
