use Rattle.std.proofs.Common.{replicate, ap, sym, ◌∙◌}
use Rattle.asm_group.specs.Shape.{Shape}
use Rattle.refusal_lines.specs.declared.refusal.Refusal.TheVariants as cause
use Rattle.file_extents.specs.catalog_tables.Tables.{Catalogued}
use Rattle.file_extents.proofs.Chains.{kept}
use Rattle.group_contents.proofs.Chains.{all_write}
use Rattle.group_contents.proofs.Spans.{span_refused}
use Rattle.group_contents.proofs.writing.fill_span.Goals as goal

pub returns-in-Some-clause-cause : goal.returns-in-Some-clause-cause
returns-in-Some-clause-cause g c = all_write c.args.m.now c.fill_bytes.new.m (g.B.Bay.state c.args.bay.now) (g.B.Bay.state c.fill_bytes.new.bay) c.fill_bytes.result c.fill_bytes.ensures.cause

pub returns-in-None-clause-keeps : goal.returns-in-None-clause-keeps
returns-in-None-clause-keeps g c = kept c.args.m.now (g.B.Bay.state c.args.bay.now) c.requires.takes

pub returns-in-Some-clause-held : goal.returns-in-Some-clause-held
returns-in-Some-clause-held g c = λ byte all.
    let shape = c.shape.ensures.shape ∙ ap (λ (k : Catalogued). k.shape) c.catalog.ensures in
    c.fill_bytes.ensures.held byte all ((c.in-Some.ensures.unit ∙ ap (λ (s : Shape). s.au) shape, c.in-Some.ensures.step ∙ ap (λ (s : Shape). s.step) shape), c.in-Some.ensures.stripe)

pub returns-in-None-clause-held : goal.returns-in-None-clause-held
returns-in-None-clause-held g c = λ byte all. span_refused c.args.m.now c.requires.mounted c.args.file.now c.args.at (g.B.Bay.state c.args.bay.now) (replicate c.args.len byte) cause.NoMemory
