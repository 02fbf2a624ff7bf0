use Rattle.edit_laws.proofs.Beside.{others_are_spared, others_stay_mounted}
use Rattle.edit_laws.proofs.Spared.{spared_is_sound}
use Rattle.edit_laws.proofs.others_stay.Goals as goal

pub returns : goal.returns
returns g c = record {
  spared = others_are_spared (g.B.Bay.state c.args.start.now) (g.B.Bay.state c.args.end.now) (g.met.B.Bay.sound c.args.start.now) (g.met.B.Bay.sound c.args.end.now);
  sound = spared_is_sound;
  mounted = others_stay_mounted (g.B.Bay.state c.args.start.now) (g.B.Bay.state c.args.end.now) (g.met.B.Bay.sound c.args.start.now) (g.met.B.Bay.sound c.args.end.now);
}
