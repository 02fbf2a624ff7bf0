use Rattle.std.proofs.Common.{inl, refl, [], ◌∷◌}
use Rattle.new_groups.proofs.Works.{closing_works, heading_works, works_on}
use Rattle.disk_joining.proofs.Adds.{failed_at}
use Rattle.disk_joining.proofs.heading.give_header.Goals as goal

pub write_header-requires-clause-header : goal.write_header-requires-clause-header
write_header-requires-clause-header g c = c.requires.header.header

pub write_header-requires-clause-disk : goal.write_header-requires-clause-disk
write_header-requires-clause-disk g c =
    let place = c.requires.header.place in
    let same = c.close_gates.ensures.call.calls.attached.same c.args.disk.now.slot in
    record { attached = rw same place.attached; sector_size = place.sector_size; long = rw same place.long }

pub returns-in-Ok-clause-works : goal.returns-in-Ok-clause-works
returns-in-Ok-clause-works g c =
    let h = c.args.disk.now in
    let one = c.close_gates.ensures.call.calls in
    let two = c.write_header.ensures.call.calls in
    works_on (closing_works h (h ∷ []) (inl refl) c.args.shape.sector c.args.shape.dir_blocks one.attached one.runs) (heading_works h (h ∷ []) (inl refl) _ _ two.attached two.runs)

pub returns-in-Ok-clause-shows : goal.returns-in-Ok-clause-shows
returns-in-Ok-clause-shows g c = c.write_header.ensures.there

pub returns-in-Ok-clause-cause : goal.returns-in-Ok-clause-cause
returns-in-Ok-clause-cause g c =
    let slot = c.args.disk.now.slot in
    failed_at slot c.write_header.result (g.B.Bay.state c.args.bay.now) (g.B.Bay.state c.close_gates.new.bay) (g.B.Bay.state c.write_header.new.bay) (c.close_gates.ensures.call.calls.runs.faults slot) c.write_header.ensures.call.cause

pub returns-in-Err-clause-works : goal.returns-in-Err-clause-works
returns-in-Err-clause-works g c =
    let h = c.args.disk.now in
    let one = c.close_gates.ensures.call.calls in
    closing_works h (h ∷ []) (inl refl) c.args.shape.sector c.args.shape.dir_blocks one.attached one.runs

pub returns-in-Err-clause-cause : goal.returns-in-Err-clause-cause
returns-in-Err-clause-cause g c = (c.args.disk.now.slot, c.in-Err.ensures.call.cause)
