use Rattle.std.proofs.Common.{◌≡◌, ap, arith}
use Rattle.asm_group.specs.Shape.{Shape}
use Rattle.body_slot.proofs.Steps.{plain, may_close-same}
use Rattle.disk_images.proofs.OneStep.{leads_to}
use Rattle.disk_images.proofs.HeaderBytes.{nothing_shown}
use Rattle.disk_images.proofs.HeaderPuts.{long_in, usable_header}
use Rattle.disk_images.proofs.headers.close_header.Goals as goal

pub close_gate-requires : goal.close_gate-requires
close_gate-requires g c =
    let sector : c.shape.inside.sector ≡ c.args.shape.sector = ap (λ (s : Shape). s.sector) c.shape.view_is in
    rw (c.header_slot.ensures, sector) (usable_header c.requires)

pub returns-clause-call : goal.returns-clause-call
returns-clause-call g c =
    let sector : c.shape.inside.sector ≡ c.args.shape.sector = ap (λ (s : Shape). s.sector) c.shape.view_is in
    plain (may_close-same _ c.args.slot) (rw (c.header_slot.ensures, sector) at c.close_gate.ensures.call)

pub returns-clause-gone : goal.returns-clause-gone
returns-clause-gone g c =
    let has = c.requires in
    let sector : c.shape.inside.sector ≡ c.args.shape.sector = ap (λ (s : Shape). s.sector) c.shape.view_is in
    leads_to c.close_gate.result (g.B.Bay.state c.args.bay.now) (g.B.Bay.state c.close_gate.new.bay)
    (λ x y left closes.
    nothing_shown c.args.slot y (omega (arith, long_in c.args.slot 40960 (g.met.B.Bay.sound c.args.bay.now) has.attached has.long x left, closes.elsewhere.size c.args.slot)) c.args.shape.sector closes.shows)
    (plain (may_close-same _ c.args.slot) (rw (c.header_slot.ensures, sector) at c.close_gate.ensures.call)).done
