use Rattle.record_laws.proofs.group_engine.Endings.{on_true}
use Rattle.disk_modes.proofs.Getting.{record_held}
use Rattle.disk_modes.proofs.Held.{held_here}
use Rattle.disk_modes.proofs.Resized.{units_put}
use Rattle.disk_modes.proofs.Sized.{units_got}
use Rattle.disk_modes.proofs.Steps.{goes_short, kept}
use Rattle.disk_modes.proofs.resizing.put_next.Goals as goal

pub set_status-requires-clause-whole : goal.set_status-requires-clause-whole
set_status-requires-clause-whole g c = λ mounted. (c.requires.takes mounted).0

pub set_status-requires-clause-ready : goal.set_status-requires-clause-ready
set_status-requires-clause-ready g c = λ mounted. (c.requires.takes mounted).1

pub set_status-requires-clause-next : goal.set_status-requires-clause-next
set_status-requires-clause-next g c = λ mounted. on_true c.may_get.result c.may_get.ensures c.if-not-may_get.false

pub returns-then-not-may_get-clause-goes : goal.returns-then-not-may_get-clause-goes
returns-then-not-may_get-clause-goes g c = goes_short (kept c.args.m.now (g.B.Bay.state c.args.bay.now) c.requires.takes)

pub returns-clause-goes : goal.returns-clause-goes
returns-clause-goes g c = record { keeps = c.set_status.ensures.keeps; mounted = c.set_status.ensures.mounted; cause = c.set_status.ensures.cause }

pub returns-clause-done : goal.returns-clause-done
returns-clause-done g c =
    units_put c.args.asked.now c.args.m.now c.set_status.new.self c.args.next.now c.set_status.result c.set_status.ensures.tables c.set_status.ensures.recorded
    (on_true c.may_get.result c.may_get.ensures c.if-not-may_get.false).status c.requires.asked

pub returns-then-not-may_get-clause-held : goal.returns-then-not-may_get-clause-held
returns-then-not-may_get-clause-held g c = λ fit rules. held_here c.args.m.now (g.B.Bay.state c.args.bay.now)

pub returns-clause-held : goal.returns-clause-held
returns-clause-held g c = λ fit rules.
    let m = c.args.m.now in
    let s = g.B.Bay.state c.args.bay.now in
    let e = c.set_status.ensures in
    let is_next = on_true c.may_get.result c.may_get.ensures c.if-not-may_get.false in
    record_held m c.set_status.new.self c.args.next.now s (g.B.Bay.state c.set_status.new.bay)
    (λ n h kept mounts turns. units_got m c.args.asked.now fit s c.args.next.now c.requires.asked rules n h kept mounts (g.met.B.Bay.sound c.args.bay.now) is_next turns)
    c.set_status.result (e.moments c.requires.mounted) (e.done c.requires.mounted) e.refused e.turns
