use Rattle.std.proofs.Common.{◌≡◌, ◌+◌, ◌*◌, ℕ, length, ap, subst, sym, ◌∙◌}
use Rattle.std.proofs.lemmas.Option.{same_Some}
use Rattle.bay.specs.Image.{Range}
use Rattle.asm_formats.specs.Items.{Home}
use Rattle.record_laws.specs.group_engine.Mounts.{slot_at}
use Rattle.group_pieces.specs.declared.copies.Place.{Place}
use Rattle.group_pieces.specs.Bytes.{WritesBytes}
use Rattle.group_pieces.proofs.Keeping.{writes_keep}
use Rattle.group_pieces.proofs.SpareRuns.{run_place, run_writes}
use Rattle.group_pieces.proofs.spare.write_spare.Goals as goal

pub write_synced-requires-clause-sectors : goal.write_synced-requires-clause-sectors
write_synced-requires-clause-sectors g c =
    let m = c.args.m.now in
    let takes = c.requires.takes c.requires.mounted in
    let run = c.requires.run in
    let slot_is = sym (ap (λ (h : Home). slot_at m.disks h.disk) c.home.view_is) ∙ sym c.in-Some.ensures in
    (run_place m takes.0 c.args.home run.0 c.args.inner (length c.args.bytes.now) c.in-Some.slot c.byte_of-at.result run.1 slot_is c.byte_of-at.ensures).sectors

pub returns-clause-keeps : goal.returns-clause-keeps
returns-clause-keeps g c =
    let m = c.args.m.now in
    let s = g.B.Bay.state c.args.bay.now in
    let t = g.B.Bay.state c.write_synced.new.bay in
    let n = length c.args.bytes.now in
    let takes = c.requires.takes c.requires.mounted in
    let run = c.requires.run in
    let slot_is = sym (ap (λ (h : Home). slot_at m.disks h.disk) c.home.view_is) ∙ sym c.in-Some.ensures in
    let place : Place = record { disk = c.args.home.disk; slot = c.in-Some.slot; at = c.byte_of-at.result } in
    let at = run_place m takes.0 c.args.home run.0 c.args.inner n c.in-Some.slot c.byte_of-at.result run.1 slot_is c.byte_of-at.ensures in
    writes_keep m s t _ takes.0 (run_writes m s place n takes.0 takes.1 at t c.write_synced.ensures.attached c.write_synced.ensures.runs)

pub returns-clause-writes : goal.returns-clause-writes
returns-clause-writes g c = λ slot is.
    let m = c.args.m.now in
    let s = g.B.Bay.state c.args.bay.now in
    let t = g.B.Bay.state c.write_synced.new.bay in
    let n = length c.args.bytes.now in
    let takes = c.requires.takes c.requires.mounted in
    let run = c.requires.run in
    let slot_is = sym (ap (λ (h : Home). slot_at m.disks h.disk) c.home.view_is) ∙ sym c.in-Some.ensures in
    let place : Place = record { disk = c.args.home.disk; slot = c.in-Some.slot; at = c.byte_of-at.result } in
    let at = run_place m takes.0 c.args.home run.0 c.args.inner n c.in-Some.slot c.byte_of-at.result run.1 slot_is c.byte_of-at.ensures in
    let same : c.in-Some.slot ≡ slot = same_Some c.in-Some.slot slot (sym slot_is ∙ is) in
    subst (λ (k : ℕ). WritesBytes m (Range k (c.args.home.unit * m.catalog.shape.au + c.args.inner) n) s t) same
    (subst (λ (b : ℕ). WritesBytes m (Range c.in-Some.slot b n) s t) c.byte_of-at.ensures
    (run_writes m s place n takes.0 takes.1 at t c.write_synced.ensures.attached c.write_synced.ensures.runs))
