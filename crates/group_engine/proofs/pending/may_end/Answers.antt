use Rattle.std.proofs.Common.{sym, ap, ◌∙◌}
use Rattle.asm_formats.specs.Items.{Pending}
use Rattle.group_engine.proofs.Chunks.{owned_behind, owned_past}
use Rattle.group_engine.proofs.pending.may_end.Goals as goal

pub returns-in-Some-chunk_from : goal.returns-in-Some-chunk_from
returns-in-Some-chunk_from c =
    let rules = c.shape-shape.ensures.rules.rules in
    owned_past c.args.catalog.now.tables c.in-Some.pending c.pending-2.inside.file (ap (λ (p : Pending). p.file) c.pending-2.view_is) rules.owned (sym c.pending.ensures ∙ c.in-Some.is)
    rules.tables.extents.0.0 c.in-Some-chunk_from.at (sym c.chunk_from.ensures ∙ c.in-Some-chunk_from.is)

pub returns-in-None : goal.returns-in-None
returns-in-None c =
    let rules = c.shape-shape.ensures.rules.rules in
    owned_behind c.args.catalog.now.tables c.in-Some.pending c.pending-2.inside.file (ap (λ (p : Pending). p.file) c.pending-2.view_is) rules.owned (sym c.pending.ensures ∙ c.in-Some.is)
    rules.tables.extents.0.0 (sym c.chunk_from.ensures ∙ c.in-None.is)
