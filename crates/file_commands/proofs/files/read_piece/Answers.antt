use Rattle.std.proofs.Common.{length}
use Rattle.file_commands.proofs.ReadFailures.{short_read}
use Rattle.file_commands.proofs.Spans.{takes_more}
use Rattle.file_commands.proofs.files.read_piece.Goals as goal

pub returns-in-Ok-put-clause-runs : goal.returns-in-Ok-put-clause-runs
returns-in-Ok-put-clause-runs g c =
    takes_more c.args.session.now c.args.group.now c.args.file.now c.args.at (length c.args.buf.now) (g.B.Bay.state c.args.bay.now) (g.B.Bay.state c.read_from.new.bay) c.read_from.new.buf c.args.runs.now c.put.new.self
    c.read_from.auto.buf c.in-Ok-put.ensures.holds c.in-Ok.ensures.shows

pub returns-in-Err-put-clause-cause : goal.returns-in-Err-put-clause-cause
returns-in-Err-put-clause-cause g c = short_read c.args.session.now c.args.group.now
