use Rattle.std.proofs.Common.{length}
use Rattle.group_pieces.proofs.Keeping.{writes_keep}
use Rattle.group_pieces.proofs.SpareRuns.{run_writes}
use Rattle.group_pieces.proofs.Written.{home_user, home_writes, unwritten}
use Rattle.group_pieces.proofs.spare.write_moved.Goals as goal

pub returns-in_default-clause-writes : goal.returns-in_default-clause-writes
returns-in_default-clause-writes g c =
    let m = c.args.m.now in
    let takes = c.requires.takes c.requires.mounted in
    unwritten m (g.B.Bay.state c.args.bay.now) _ takes.0 takes.1 (home_user m c.args.home c.args.inner (length c.args.bytes.now))

pub returns-clause-keeps : goal.returns-clause-keeps
returns-clause-keeps g c =
    let m = c.args.m.now in
    let s = g.B.Bay.state c.args.bay.now in
    let t = g.B.Bay.state c.write_synced.new.bay in
    let takes = c.requires.takes c.requires.mounted in
    writes_keep m s t _ takes.0 (run_writes m s c.in-Some.place _ takes.0 takes.1 c.in-Some.ensures.run t c.write_synced.ensures.attached c.write_synced.ensures.runs)

pub returns-clause-writes : goal.returns-clause-writes
returns-clause-writes g c =
    let m = c.args.m.now in
    let s = g.B.Bay.state c.args.bay.now in
    let t = g.B.Bay.state c.write_synced.new.bay in
    let takes = c.requires.takes c.requires.mounted in
    home_writes m s t c.args.home c.args.inner (length c.args.bytes.now) c.in-Some.place c.in-Some.ensures.run c.in-Some.ensures.at
    (run_writes m s c.in-Some.place _ takes.0 takes.1 c.in-Some.ensures.run t c.write_synced.ensures.attached c.write_synced.ensures.runs)
