use Rattle.session_claims.proofs.FoundMembers.{found_is_known, found_is_member, found_is_unmounted}
use Rattle.session_claims.proofs.found.mounts_find.Goals as goal

pub returns : goal.returns
returns g c = record {
  member = found_is_member g.B.Bay.state g.met.B.Bay.sound (g.B.Bay.state c.args.start.now) (g.met.B.Bay.sound c.args.start.now);
  known = found_is_known g.B.Bay.state g.met.B.Bay.sound (g.B.Bay.state c.args.start.now) (g.met.B.Bay.sound c.args.start.now);
  unmounted = found_is_unmounted g.B.Bay.state g.met.B.Bay.sound (g.B.Bay.state c.args.start.now) (g.met.B.Bay.sound c.args.start.now);
}
