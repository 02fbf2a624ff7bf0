use Rattle.std.proofs.Common.{ap, ◌∙◌}
use Rattle.asm_group.specs.Shape.{Shape}
use Rattle.file_extents.specs.catalog_tables.Tables.{Catalogued}
use Rattle.file_extents.proofs.Chains.{kept}
use Rattle.group_contents.proofs.Chains.{shut_reads}
use Rattle.group_contents.proofs.Shown.{none_read, stays_itself}
use Rattle.group_contents.proofs.reading.read_next.Goals as goal

pub returns-in-Err-clause-keeps : goal.returns-in-Err-clause-keeps
returns-in-Err-clause-keeps g c = kept c.args.m.now (g.B.Bay.state c.args.bay.now) c.requires.takes

pub returns-in-Err-clause-cause : goal.returns-in-Err-clause-cause
returns-in-Err-clause-cause g c = shut_reads c.args.m.now (g.B.Bay.state c.args.bay.now) c.args.file.now c.in-Err.refusal c.in-Err.ensures.cause

pub returns-in-Err-clause-reads : goal.returns-in-Err-clause-reads
returns-in-Err-clause-reads g c = none_read c.args.m.now (g.B.Bay.state c.args.bay.now)

pub returns-in-Err-clause-mounted : goal.returns-in-Err-clause-mounted
returns-in-Err-clause-mounted g c = stays_itself c.args.m.now (g.B.Bay.state c.args.bay.now)

pub returns-in-None-clause-keeps : goal.returns-in-None-clause-keeps
returns-in-None-clause-keeps g c = kept c.args.m.now (g.B.Bay.state c.args.bay.now) c.requires.takes

pub returns-in-None-clause-reads : goal.returns-in-None-clause-reads
returns-in-None-clause-reads g c = none_read c.args.m.now (g.B.Bay.state c.args.bay.now)

pub returns-in-None-clause-mounted : goal.returns-in-None-clause-mounted
returns-in-None-clause-mounted g c = stays_itself c.args.m.now (g.B.Bay.state c.args.bay.now)

pub read_pieces-requires-clause-shape : goal.read_pieces-requires-clause-shape
read_pieces-requires-clause-shape g c =
    let shape = c.shape.ensures.shape ∙ ap (λ (k : Catalogued). k.shape) c.catalog.ensures in
    (c.in-Some.ensures.unit ∙ ap (λ (s : Shape). s.au) shape, c.in-Some.ensures.step ∙ ap (λ (s : Shape). s.step) shape)
