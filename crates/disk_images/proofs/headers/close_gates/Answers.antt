use Rattle.std.proofs.Common.{◌≡◌, ap}
use Rattle.asm_group.specs.Shape.{Shape}
use Rattle.disk_images.proofs.OneStep.{leads_to}
use Rattle.disk_images.proofs.HeaderPuts.{closed_is_blank, long_in}
use Rattle.disk_images.proofs.headers.close_gates.Goals as goal

pub returns-clause-call : goal.returns-clause-call
returns-clause-call g c =
    let sector : c.shape.inside.sector ≡ c.args.shape.sector = ap (λ (s : Shape). s.sector) c.shape.view_is in
    let pages : c.shape.inside.dir_blocks ≡ c.args.shape.dir_blocks = ap (λ (s : Shape). s.dir_blocks) c.shape.view_is in
    rw (sector, pages) at c.close_all_gates.ensures

pub returns-clause-blank : goal.returns-clause-blank
returns-clause-blank g c =
    let has = c.requires.region in
    let sector : c.shape.inside.sector ≡ c.args.shape.sector = ap (λ (s : Shape). s.sector) c.shape.view_is in
    let pages : c.shape.inside.dir_blocks ≡ c.args.shape.dir_blocks = ap (λ (s : Shape). s.dir_blocks) c.shape.view_is in
    leads_to c.close_all_gates.result (g.B.Bay.state c.args.bay.now) (g.B.Bay.state c.close_all_gates.new.bay)
    (λ x y left closes.
    closed_is_blank c.args.slot c.args.shape.sector c.args.shape.dir_blocks x y has.long (long_in c.args.slot _ (g.met.B.Bay.sound c.args.bay.now) has.attached has.region x left) closes)
    (rw (sector, pages) at c.close_all_gates.ensures.done)
