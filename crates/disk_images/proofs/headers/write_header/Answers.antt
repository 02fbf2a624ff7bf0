use Rattle.std.proofs.Common.{◌≡◌, ap, arith}
use Rattle.body_slot.proofs.Steps.{plain, may_put-same}
use Rattle.asm_formats.specs.Header.{Header}
use Rattle.disk_images.proofs.OneStep.{leads_to}
use Rattle.disk_images.proofs.HeaderBytes.{header_shown}
use Rattle.disk_images.proofs.HeaderPuts.{long_in, usable_header}
use Rattle.disk_images.proofs.headers.write_header.Goals as goal

pub put-requires-clause-usable : goal.put-requires-clause-usable
put-requires-clause-usable g c =
    let sector : c.header.inside.sector ≡ c.args.header.now.shape.sector = ap (λ (h : Header). h.shape.sector) c.header.view_is in
    rw (c.header_slot.ensures, sector) (usable_header c.requires.disk)

pub returns-clause-call : goal.returns-clause-call
returns-clause-call g c =
    let sector : c.header.inside.sector ≡ c.args.header.now.shape.sector = ap (λ (h : Header). h.shape.sector) c.header.view_is in
    plain (may_put-same _ c.args.slot _) (rw (c.header_slot.ensures, c.encode.ensures, sector) at c.put.ensures)

pub returns-clause-there : goal.returns-clause-there
returns-clause-there g c =
    let h = c.args.header.now in
    let has = c.requires.disk in
    let sector : c.header.inside.sector ≡ c.args.header.now.shape.sector = ap (λ (h : Header). h.shape.sector) c.header.view_is in
    leads_to c.put.result (g.B.Bay.state c.args.bay.now) (g.B.Bay.state c.put.new.bay)
    (λ x y left puts.
    header_shown c.args.slot y (omega (arith, long_in c.args.slot 40960 (g.met.B.Bay.sound c.args.bay.now) has.attached has.long x left, puts.elsewhere.size c.args.slot)) h.shape.sector h c.requires.header puts.shows)
    (plain (may_put-same _ c.args.slot _) (rw (c.header_slot.ensures, c.encode.ensures, sector) at c.put.ensures)).done
