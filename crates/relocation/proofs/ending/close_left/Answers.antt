use Rattle.std.proofs.Common.{sym, ap, subst, ◌∙◌}
use Rattle.asm_group.specs.Shape.{Shape}
use Rattle.resync.specs.catalog_tables.Tables.{Catalogued}
use Rattle.disk_images.specs.Headers.{HasHeaderSlot}
use Rattle.relocation.proofs.Leaving.{closes, closes_nothing}
use Rattle.relocation.proofs.ending.close_left.Goals as goal

pub returns-then-is_attached : goal.returns-then-is_attached
returns-then-is_attached g c = closes_nothing c.args.slot c.args.m.now (g.B.Bay.state c.args.bay.now) c.requires.takes

pub close_header-requires : goal.close_header-requires
close_header-requires g c =
    subst (λ (s : Shape). HasHeaderSlot (g.B.Bay.state c.args.bay.now) c.args.slot s.sector) (sym (c.shape.ensures.shape ∙ ap (λ (k : Catalogued). k.shape) c.catalog.ensures)) c.requires.header

pub returns : goal.returns
returns g c =
    let calls = c.close_header.ensures.call.calls in
    closes c.args.slot c.args.m.now _ c.requires.takes (λ whole. sym c.is_attached.ensures ∙ c.if-is_attached.false) calls.attached calls.runs
