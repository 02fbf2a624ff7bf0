use Rattle.session.proofs.Carrying.{carries_none}
use Rattle.file_commands.proofs.ReadFailures.{lines_cause, short_lines}
use Rattle.file_commands.proofs.Spans.{lines_read, no_call}
use Rattle.file_commands.proofs.files.read_lines.Goals as goal

pub returns-in-Err : goal.returns-in-Err
returns-in-Err g c = record {
  carries = carries_none c.args.session.now c.requires.ready;
  reads = no_call (g.B.Bay.state c.args.bay.now);
  lines = tt;
  cause = c.in-Err.ensures.cause;
}

pub returns-in-Ok-into_lines-clause-lines : goal.returns-in-Ok-into_lines-clause-lines
returns-in-Ok-into_lines-clause-lines g c =
    lines_read c.args.session.now c.args.path.now.group c.in-Ok.file c.args.path.now.parts c.args.at c.args.len (g.B.Bay.state c.args.bay.now) (g.B.Bay.state c.read_runs.new.bay) c.in-Ok-read_runs.runs c.in-Ok-into_lines.lines
    c.in-Ok.ensures.opened c.in-Ok-read_runs.ensures.runs c.in-Ok-into_lines.ensures

pub returns-in-Err-read_runs-clause-cause : goal.returns-in-Err-read_runs-clause-cause
returns-in-Err-read_runs-clause-cause g c =
    lines_cause c.args.session.now c.args.path.now.group c.args.path.now.parts c.args.at c.args.len c.in-Ok.file c.in-Err-read_runs.refusal c.in-Ok.ensures.opened c.in-Err-read_runs.ensures.cause

pub returns-in-Err-into_lines-clause-cause : goal.returns-in-Err-into_lines-clause-cause
returns-in-Err-into_lines-clause-cause g c = short_lines c.args.session.now c.args.path.now.group c.args.path.now.parts c.args.at c.args.len
