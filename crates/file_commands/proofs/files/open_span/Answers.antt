use Rattle.file_commands.specs.Reading.{out}
use Rattle.file_commands.proofs.ReadFailures.{none_in, opens_in}
use Rattle.file_commands.proofs.files.open_span.Goals as goal

pub returns-in-Err-clause-cause : goal.returns-in-Err-clause-cause
returns-in-Err-clause-cause c = out c.in-Err.ensures.cause

pub returns-clause-opened : goal.returns-clause-opened
returns-clause-opened c = opens_in c.args.session.now c.args.path.now.group c.args.path.now.parts c.args.at c.args.len c.in-Ok.m.now c.in-Ok.ensures.found c.span_of.result c.span_of.ensures.opened

pub returns-clause-cause : goal.returns-clause-cause
returns-clause-cause c = none_in c.args.session.now c.args.path.now.group c.args.path.now.parts c.args.at c.args.len c.in-Ok.m.now c.in-Ok.ensures.found c.span_of.result c.span_of.ensures.cause
