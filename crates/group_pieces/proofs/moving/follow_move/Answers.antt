use Rattle.std.proofs.Common.{length, subst, sym}
use Rattle.record_laws.specs.group_engine.Mounts.{MountedGroup}
use Rattle.record_laws.specs.group_engine.Own.{KeepsGroup}
use Rattle.record_laws.proofs.group_engine.Causes.{calls_keep, gives_up}
use Rattle.group_pieces.proofs.Steps.{takes_next}
use Rattle.group_pieces.proofs.Written.{moved_user, moved_writes, unwritten}
use Rattle.group_pieces.proofs.moving.follow_move.Goals as goal

pub returns-in_default-clause-writes : goal.returns-in_default-clause-writes
returns-in_default-clause-writes g c =
    let m = c.args.m.now in
    let takes = c.requires.takes c.requires.mounted in
    unwritten m (g.B.Bay.state c.args.bay.now) _ takes.0 takes.1 (moved_user m c.args.x c.args.inner (length c.args.bytes.now))

pub returns-then-bits-ne0-clause-keeps : goal.returns-then-bits-ne0-clause-keeps
returns-then-bits-ne0-clause-keeps g c =
    let s = g.B.Bay.state c.args.bay.now in
    subst (λ (q : MountedGroup). KeepsGroup c.args.m.now q s s) (sym c.set_flight.ensures) (gives_up c.args.m.now s c.requires.takes)

pub returns-then-bits-ne0-clause-writes : goal.returns-then-bits-ne0-clause-writes
returns-then-bits-ne0-clause-writes g c =
    let m = c.args.m.now in
    let takes = c.requires.takes c.requires.mounted in
    unwritten m (g.B.Bay.state c.args.bay.now) _ takes.0 takes.1 (moved_user m c.args.x c.args.inner (length c.args.bytes.now))

pub returns-in-Ok-clause-writes : goal.returns-in-Ok-clause-writes
returns-in-Ok-clause-writes g c =
    let s = g.B.Bay.state c.args.bay.now in
    let t = g.B.Bay.state c.write_copied.new.bay in
    moved_writes c.args.m.now s t c.in-Some.flight c.args.x c.args.inner (length c.args.bytes.now) (sym c.in-Some.ensures) c.write_copied.ensures.writes

pub returns-in-Err-clause-keeps : goal.returns-in-Err-clause-keeps
returns-in-Err-clause-keeps g c =
    let m = c.args.m.now in
    let s = g.B.Bay.state c.args.bay.now in
    let t = g.B.Bay.state c.write_copied.new.bay in
    subst (λ (q : MountedGroup). KeepsGroup m q s t) (sym c.set_flight-in-Err.ensures) (calls_keep c.write_copied.ensures.keeps (gives_up m t (takes_next m m s t c.write_copied.ensures.keeps)))

pub returns-in-Err-clause-writes : goal.returns-in-Err-clause-writes
returns-in-Err-clause-writes g c =
    let s = g.B.Bay.state c.args.bay.now in
    let t = g.B.Bay.state c.write_copied.new.bay in
    moved_writes c.args.m.now s t c.in-Some.flight c.args.x c.args.inner (length c.args.bytes.now) (sym c.in-Some.ensures) c.write_copied.ensures.writes
