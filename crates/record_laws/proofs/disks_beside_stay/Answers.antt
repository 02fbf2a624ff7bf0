use Rattle.record_laws.proofs.Beside.{header_stays_beside, member_stays_beside}
use Rattle.record_laws.proofs.disks_beside_stay.Goals as goal

pub returns : goal.returns
returns g c = record {
  header = header_stays_beside (g.B.Bay.state c.args.start.now) (g.B.Bay.state c.args.end.now);
  member = member_stays_beside (g.B.Bay.state c.args.start.now) (g.B.Bay.state c.args.end.now);
}
