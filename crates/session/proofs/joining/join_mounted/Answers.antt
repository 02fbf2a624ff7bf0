use Rattle.session.specs.Joining.{others_of}
use Rattle.session.proofs.Attached.{apart_from, apart_so, takes_none}
use Rattle.session.proofs.joining.join_mounted.Goals as goal

pub run-joined-requires-clause-apart : goal.run-joined-requires-clause-apart
run-joined-requires-clause-apart g c =
    apart_so c.args.m.now c.disks.result.now c.args.known.held.items c.in-Ok.known.held.items c.disks.ensures c.in-Ok.ensures (c.requires.takes c.requires.mounted).0

pub returns-in-Err : goal.returns-in-Err
returns-in-Err g c = record {
  keeps = takes_none (others_of c.args.m.now.disks c.args.known.held.items) c.args.m.now (g.B.Bay.state c.args.bay.now) c.requires.takes
      (apart_from c.args.m.now c.args.known.held.items (c.requires.takes c.requires.mounted).0);
}
