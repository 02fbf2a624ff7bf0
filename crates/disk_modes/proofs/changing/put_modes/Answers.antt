use Rattle.std.proofs.Common.{IsTrue, sym, subst}
use Rattle.asm_formats.specs.Status.{Status, is_status}
use Rattle.disk_modes.specs.Records.{IsChanged, IsUnder}
use Rattle.disk_modes.proofs.Effects.{modes_put}
use Rattle.disk_modes.proofs.Getting.{modes_got, record_held}
use Rattle.disk_modes.proofs.Held.{held_here}
use Rattle.disk_modes.proofs.NextRecords.{changed_is_next}
use Rattle.disk_modes.proofs.Steps.{goes_short, kept}
use Rattle.disk_modes.proofs.changing.put_modes.Goals as goal

pub next_record-requires : goal.next_record-requires
next_record-requires g c = subst (λ (r : Status). IsTrue (is_status r)) (sym c.status.ensures) (c.requires.takes c.requires.mounted).0.status

pub set_status-requires-clause-whole : goal.set_status-requires-clause-whole
set_status-requires-clause-whole g c = λ mounted. (c.requires.takes mounted).0

pub set_status-requires-clause-ready : goal.set_status-requires-clause-ready
set_status-requires-clause-ready g c = λ mounted. (c.requires.takes mounted).1

pub set_status-requires-clause-next : goal.set_status-requires-clause-next
set_status-requires-clause-next g c = λ mounted. changed_is_next c.args.m.now c.in-Ok.next (c.requires.takes mounted).0 c.in-Ok.ensures.status
    (subst (λ (r : Status). IsChanged r c.in-Ok.next) c.status.ensures c.in-Ok.ensures.changed)

pub returns-in-Ok-clause-goes : goal.returns-in-Ok-clause-goes
returns-in-Ok-clause-goes g c = record { keeps = c.set_status.ensures.keeps; mounted = c.set_status.ensures.mounted; cause = c.set_status.ensures.cause }

pub returns-in-Ok-clause-done : goal.returns-in-Ok-clause-done
returns-in-Ok-clause-done g c =
    modes_put c.args.new.now c.args.m.now c.set_status.new.self c.in-Ok.next c.set_status.result c.set_status.ensures.tables c.set_status.ensures.recorded
    (subst (λ (r : Status). IsUnder c.args.new.now r c.in-Ok.next) c.status.ensures c.in-Ok.ensures.under)

pub returns-in-Err-clause-goes : goal.returns-in-Err-clause-goes
returns-in-Err-clause-goes g c = goes_short (kept c.args.m.now (g.B.Bay.state c.args.bay.now) c.requires.takes)

pub returns-in-Ok-clause-held : goal.returns-in-Ok-clause-held
returns-in-Ok-clause-held g c = λ may.
    let m = c.args.m.now in
    let s = g.B.Bay.state c.args.bay.now in
    let e = c.set_status.ensures in
    let changed = subst (λ (r : Status). IsChanged r c.in-Ok.next) c.status.ensures c.in-Ok.ensures.changed in
    let under = subst (λ (r : Status). IsUnder c.args.new.now r c.in-Ok.next) c.status.ensures c.in-Ok.ensures.under in
    record_held m c.set_status.new.self c.in-Ok.next s (g.B.Bay.state c.set_status.new.bay)
    (λ n h kept mounts turns. modes_got s m c.args.new.now c.in-Ok.next c.in-Ok.ensures.status changed under may n h kept mounts turns)
    c.set_status.result (e.moments c.requires.mounted) (e.done c.requires.mounted) e.refused e.turns

pub returns-in-Err-clause-held : goal.returns-in-Err-clause-held
returns-in-Err-clause-held g c = λ may. held_here c.args.m.now (g.B.Bay.state c.args.bay.now)
