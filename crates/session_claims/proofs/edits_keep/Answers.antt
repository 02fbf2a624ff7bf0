use Rattle.session_claims.proofs.Edited.{edits_keep, refusals_keep, tearing_keeps}
use Rattle.session_claims.proofs.edits_keep.Goals as goal

pub returns : goal.returns
returns g c = record {
  done = edits_keep (g.B.Bay.state c.args.start.now) (g.B.Bay.state c.args.end.now) (g.met.B.Bay.sound c.args.start.now) (g.met.B.Bay.sound c.args.end.now);
  torn = tearing_keeps (g.B.Bay.state c.args.start.now) (g.B.Bay.state c.args.end.now) (g.met.B.Bay.sound c.args.start.now) (g.met.B.Bay.sound c.args.end.now);
  refused = refusals_keep (g.B.Bay.state c.args.start.now) (g.B.Bay.state c.args.end.now) (g.met.B.Bay.sound c.args.start.now);
}
