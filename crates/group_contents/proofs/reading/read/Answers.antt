use Rattle.std.proofs.Common.{inl}
use Rattle.group_contents.specs.Files.{AtFile, SpanCause}
use Rattle.file_extents.proofs.Chains.{kept}
use Rattle.group_contents.proofs.Chains.{read_opened}
use Rattle.group_contents.proofs.Shown.{none_read, stays_itself}
use Rattle.group_contents.proofs.reading.read.Goals as goal

pub returns-in-Err-clause-keeps : goal.returns-in-Err-clause-keeps
returns-in-Err-clause-keeps g c = kept c.args.m.now (g.B.Bay.state c.args.bay.now) c.requires.takes

pub returns-in-Err-clause-cause : goal.returns-in-Err-clause-cause
returns-in-Err-clause-cause g c = inl c.in-Err.ensures.cause

pub returns-in-Err-clause-reads : goal.returns-in-Err-clause-reads
returns-in-Err-clause-reads g c = none_read c.args.m.now (g.B.Bay.state c.args.bay.now)

pub returns-in-Err-clause-mounted : goal.returns-in-Err-clause-mounted
returns-in-Err-clause-mounted g c = stays_itself c.args.m.now (g.B.Bay.state c.args.bay.now)

pub returns-in-Ok-clause-cause : goal.returns-in-Ok-clause-cause
returns-in-Ok-clause-cause g c =
    let m = c.args.m.now in
    read_opened m c.args.path.now.parts (AtFile m c.args.path.now.parts (SpanCause m c.args.span.at c.args.span.len)) (g.B.Bay.state c.args.bay.now) (g.B.Bay.state c.read_next.new.bay) c.in-Ok.file c.read_next.result
    c.in-Ok.ensures.opened c.read_next.ensures.cause
