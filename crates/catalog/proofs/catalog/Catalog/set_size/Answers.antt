use Rattle.std.proofs.Common.{ap, arith}
use Rattle.asm_formats.specs.Items.{FileHead}
use Rattle.catalog.proofs.SizePlans.{shrunk, sized_allowed}
use Rattle.catalog.proofs.catalog.Catalog.set_size.Goals as goal

pub record_of-requires : goal.record_of-requires
record_of-requires c = sized_allowed c.args.self.now c.args.file c.args.head.now c.in_ok-sized.sized c.args.size c.keeps_rules.ensures c.requires.file (omega arith) c.in_ok-sized.ensures

pub returns-then-size-head : goal.returns-then-size-head
returns-then-size-head c =
    let size = ap (λ (h : FileHead). h.size) c.head.view_is in
    shrunk c.args.self.now c.args.file c.args.head.now c.args.size c.in_ok-change.change.put c.in_ok-change.change.gone c.keeps_rules.ensures c.requires.file (omega arith) c.requires.extents c.shrinking-op.result c.shape.result c.in_ok-sized.sized
    c.in_ok-entry.entry c.in_ok-begun.begun c.in_ok-change.ensures.put c.in_ok-change.ensures.gone c.in_ok-entry.ensures c.in_ok-begun.ensures c.in_ok-sized.ensures c.shape.ensures.shape (omega (arith, size)) c.fits.ensures
    c.shrinking-op.ensures.kind c.shrinking-op.ensures.file c.shrinking-op.ensures.kept
