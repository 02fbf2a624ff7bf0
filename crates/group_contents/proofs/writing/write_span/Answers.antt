use Rattle.std.proofs.Common.{ℕ, ap, subst, ◌∙◌}
use Rattle.asm_group.specs.Shape.{Shape}
use Rattle.refusal_lines.specs.declared.refusal.Refusal.TheVariants as cause
use Rattle.file_extents.specs.catalog_tables.Tables.{Catalogued}
use Rattle.file_extents.specs.Filling.{PutCause}
use Rattle.file_extents.proofs.Chains.{kept}
use Rattle.group_contents.proofs.Chains.{puts_write}
use Rattle.group_contents.proofs.Spans.{span_refused}
use Rattle.group_contents.proofs.writing.write_span.Goals as goal

pub returns-in_default-clause-keeps : goal.returns-in_default-clause-keeps
returns-in_default-clause-keeps g c = kept c.args.m.now (g.B.Bay.state c.args.bay.now) c.requires.takes

pub returns-in-Err-clause-cause : goal.returns-in-Err-clause-cause
returns-in-Err-clause-cause g c =
    let m = c.args.m.now in
    let new = c.write_bytes.new.m in
    let s = g.B.Bay.state c.args.bay.now in
    let t = g.B.Bay.state c.write_bytes.new.bay in
    puts_write m new s t c.in-Err.refusal (subst (λ (k : ℕ). PutCause m k new s t c.in-Err.refusal) c.empty.ensures c.in-Err.ensures.cause)

pub returns-in_default-clause-held : goal.returns-in_default-clause-held
returns-in_default-clause-held g c = span_refused c.args.m.now c.requires.mounted c.args.file.now c.args.at (g.B.Bay.state c.args.bay.now) c.args.bytes.now cause.NoMemory

pub returns-in-Ok-clause-held : goal.returns-in-Ok-clause-held
returns-in-Ok-clause-held g c =
    let shape = c.shape.ensures.shape ∙ ap (λ (k : Catalogued). k.shape) c.catalog.ensures in
    c.in-Ok.ensures.held ((c.in-Some.ensures.unit ∙ ap (λ (s : Shape). s.au) shape, c.in-Some.ensures.step ∙ ap (λ (s : Shape). s.step) shape), c.in-Some.ensures.stripe)

pub returns-in-Err-clause-held : goal.returns-in-Err-clause-held
returns-in-Err-clause-held g c =
    let shape = c.shape.ensures.shape ∙ ap (λ (k : Catalogued). k.shape) c.catalog.ensures in
    c.in-Err.ensures.held ((c.in-Some.ensures.unit ∙ ap (λ (s : Shape). s.au) shape, c.in-Some.ensures.step ∙ ap (λ (s : Shape). s.step) shape), c.in-Some.ensures.stripe)
