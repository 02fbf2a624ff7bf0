use Rattle.std.proofs.Common.{◌≡◌, false, List, sym, subst, ◌∙◌, IsTrue}
use Rattle.std.specs.List.{list_any}
use Rattle.asm_formats.specs.Status.{Entry, Status, is_status}
use Rattle.record_laws.proofs.group_engine.Endings.{goes_begin}
use Rattle.disk_modes.specs.Sizes.{is_other}
use Rattle.disk_modes.proofs.Held.{held_here}
use Rattle.disk_modes.proofs.Reasons.{of_record}
use Rattle.disk_modes.proofs.Resized.{no_units_put, of_status}
use Rattle.disk_modes.proofs.resizing.put_units.Goals as goal

pub returns-then-not-has_others-clause-goes : goal.returns-then-not-has_others-clause-goes
returns-then-not-has_others-clause-goes g c =
    let takes = c.requires.takes c.requires.mounted in
    goes_begin c.args.m.now (g.B.Bay.state c.args.bay.now) c.requires.mounted takes.0 takes.1

pub returns-then-not-has_others-clause-done : goal.returns-then-not-has_others-clause-done
returns-then-not-has_others-clause-done g c =
    let m = c.args.m.now in
    no_units_put c.args.asked.now m
    (subst (λ (es : List Entry). list_any (is_other m.catalog.shape m.disks c.args.asked.now) es ≡ false) (of_record m c.status.result.now c.entries.result.now c.status.ensures c.entries.ensures.entries)
    (sym c.has_others.ensures ∙ c.if-not-has_others.true))

pub with_asked-next-requires : goal.with_asked-next-requires
with_asked-next-requires g c = subst (λ (r : Status). IsTrue (is_status r)) (sym c.status-2.ensures) (c.requires.takes c.requires.mounted).0.status

pub put_next-requires-clause-asked : goal.put_next-requires-clause-asked
put_next-requires-clause-asked g c = of_status c.args.asked.now c.args.m.now c.status-2.result.now c.with_asked-next.result c.status-2.ensures c.with_asked-next.ensures

pub returns-then-not-has_others-clause-held : goal.returns-then-not-has_others-clause-held
returns-then-not-has_others-clause-held g c = λ fit rules. held_here c.args.m.now (g.B.Bay.state c.args.bay.now)
