use Rattle.file_commands.proofs.ReadFailures.{short_read}
use Rattle.file_commands.proofs.Spans.{have_read, no_call}
use Rattle.file_commands.proofs.files.read_runs.Goals as goal

pub returns-in-Ok-read_span-clause-runs : goal.returns-in-Ok-read_span-clause-runs
returns-in-Ok-read_span-clause-runs g c =
    have_read c.args.session.now c.args.group.now c.args.file.now c.args.at c.args.len (g.B.Bay.state c.args.bay.now) (g.B.Bay.state c.read_span.new.bay) c.new-runs.result c.read_span.new.runs c.new-runs.ensures.holds c.in-Ok-read_span.ensures.runs

pub returns-in_default-clause-reads : goal.returns-in_default-clause-reads
returns-in_default-clause-reads g c = no_call (g.B.Bay.state c.args.bay.now)

pub returns-in_default-clause-cause : goal.returns-in_default-clause-cause
returns-in_default-clause-cause g c = short_read c.args.session.now c.args.group.now
