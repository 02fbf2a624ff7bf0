use Rattle.session_claims.proofs.Mounted.{mounts_keep, refused_mounts_keep}
use Rattle.session_claims.proofs.mounts_keep.Goals as goal

pub returns : goal.returns
returns g c = record {
  done = mounts_keep (g.B.Bay.state c.args.start.now) (g.B.Bay.state c.args.end.now) (g.met.B.Bay.sound c.args.start.now);
  refused = refused_mounts_keep (g.B.Bay.state c.args.start.now) (g.B.Bay.state c.args.end.now) (g.met.B.Bay.sound c.args.start.now);
}
